-- Sets of principals by their numbers (this library's own).
use Rattle.std.specs.Prelude.{ℕ, ◌<◌, Bool, true, false, ◌||◌, ◌==◌, List, [], ◌∷◌, Option, Some, None, length, slice_index_or}
use Rattle.acl_perm.specs.Principal.{Principal, everyone}
use Rattle.acl_normal.specs.declared.comparison.members.Members.{Members}
use Rattle.acl_normal.specs.declared.comparison.members.Members.TheVariants as code
use Rattle.acl_normal.specs.declared.comparison.placing.Whom.{Whom}
use Rattle.acl_normal.specs.declared.comparison.placing.Whom.TheVariants.{Everyone, Nobody, One}

-- the principals of these numbers
abbrev pub members_of : List Principal → Members → List Principal
members_of whole code.Nobody = []
members_of whole (code.One i) = slice_index_or whole i everyone ∷ []
members_of whole (code.Two i j) = slice_index_or whole i everyone ∷ slice_index_or whole j everyone ∷ []

-- those of the set that was found, if one was
abbrev pub members_or_none : List Principal → Option Members → Option (List Principal)
members_or_none whole None = None
members_or_none whole (Some set) = Some (members_of whole set)

-- each number is that of a principal
abbrev pub AreNumbered : List Principal → Members → Type 0
AreNumbered whole code.Nobody = Unit {0}
AreNumbered whole (code.One i) = i < length whole
AreNumbered whole (code.Two i j) = (i < length whole) × (j < length whole)

-- the number is one of the set
abbrev pub has_number : Members → ℕ → Bool
has_number code.Nobody k = false
has_number (code.One i) k = i == k
has_number (code.Two i j) k = (i == k) || (j == k)

-- an ACE names a principal of the set, or everyone
abbrev pub is_matched : Members → Whom → Bool
is_matched set Nobody = false
is_matched set (One k) = has_number set k
is_matched set Everyone = true
