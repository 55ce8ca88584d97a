-- What shows which ALLOWs of a list exceed a bound on one right (this library's own).
use Rattle.std.specs.Prelude.{◌≡◌, ℕ, ◌-◌, Bool, false, not, ◌&&◌, ◌||◌, if◌then◌else◌, nat_lt, List, [], ◌∷◌, ◌++◌, length, map, slice_index_or}
use Rattle.acl_perm.specs.Principal.{everyone}
use Rattle.acl_nfs4.specs.Ace.{Ace}
use Rattle.acl_eval.specs.Grant.{is_allow}
use Rattle.acl_normal.specs.Classes.{is_users}
use Rattle.acl_normal.specs.SmallSets.{mentioned}
use Rattle.acl_normal.specs.internal.Shown.{aces_in}
use Rattle.acl_normal.specs.internal.comparison.FirstPlaces.{ArePlacings, AreWhoms, no_placing}
use Rattle.acl_normal.specs.internal.comparison.PlaceTables.{IsDeniedTable}
use Rattle.acl_normal.specs.internal.comparison.SetSearch.{principals}
use Rattle.acl_normal.specs.declared.comparison.placing.Placing.{Placing}
use Rattle.acl_normal.specs.declared.comparison.placing.Whom.{Whom}
use Rattle.acl_normal.specs.declared.comparison.placing.Whom.TheVariants.{Everyone, Nobody, One}
use Rattle.acl_normal.specs.declared.principal_class.Class.TheVariants.{Others, Users}
use Rattle.acl_contain.specs.declared.restricting.limits.Limits.{Limits}
use Rattle.acl_contain.specs.declared.restricting.named.Named.{Named}

-- the ACE, without rights if it is an ALLOW
abbrev pub denial : Ace → Ace
denial a = record a { mask = if is_allow a.kind then 0 else a.mask }

-- a list without the rights of its ALLOWs
abbrev pub denials : List Ace → List Ace
denials = map denial

-- the bound
abbrev pub bound_of : Named → List Ace
bound_of n = aces_in n.bound.aces.items

-- whom the ACEs name
pub record NameSome (n : Named) : Type 0 where
  pub here : AreWhoms (principals n.whole.items) (aces_in n.list.aces.items) n.list.whoms.items
  pub there : AreWhoms (principals n.whole.items) (bound_of n) n.bound.whoms.items

-- the principals are those that a list and the bound mention, and everyone, and the DENYs are those of the list
pub record IsNaming (list : List Ace) (n : Named) : Type 0 where
  pub whole : principals n.whole.items ≡ mentioned list (bound_of n) ++ everyone ∷ []
  pub denials : aces_in n.list.aces.items ≡ denials list
  pub whoms : NameSome n

-- the first DENY of the list and the first ACE of the bound that concern each principal, and the tables of the greatest
-- places
pub record AreLimits (n : Named) (bit : ℕ) (l : Limits) : Type 0 where
  pub placings : ArePlacings (principals n.whole.items) (aces_in n.list.aces.items) (bound_of n) bit
      l.placings.items
  pub size : ℕ
  pub users : IsDeniedTable Users size l.placings.items l.users.items
  pub others : IsDeniedTable Others size l.placings.items l.others.items

-- the placing of a number
abbrev pub placing_at : Limits → ℕ → Placing
placing_at l number = slice_index_or l.placings.items number no_placing

-- the number of a placing in the table of its class
abbrev pub most_of : Limits → Placing → ℕ
most_of l r = slice_index_or (if is_users r.class then l.users.items else l.others.items) r.there.place 0

-- an ALLOW at a place, of the principal of a number, grants somebody what the bound denies
abbrev pub exceeds : Limits → ℕ → ℕ → Bool
exceeds l number place = not (nat_lt (placing_at l number).here.place place)
    && (not (is_allow (placing_at l number).there.kind) || nat_lt place (most_of l (placing_at l number)))

-- an ALLOW at a place, of whom it names, grants somebody what the bound denies
abbrev pub whom_exceeds : Limits → Whom → ℕ → Bool
whom_exceeds l Nobody place = false
whom_exceeds l (One number) place = exceeds l number place
whom_exceeds l Everyone place = exceeds l (length l.placings.items - 1) place
