-- The keys of those ACEs of a list that have one bit, and what they decide (RFC 8881, section 6.2.1).
use Rattle.std.specs.Prelude.{◌≡◌, ℕ, Bool, ◌&&◌, not, if◌then◌else◌, List, [], ◌∷◌, map, filter, Option, Some, None, unwrap_or}
use Rattle.acl_perm.specs.Bits.{has_bit, inherit_only}
use Rattle.acl_perm.specs.Principal.{Principal}
use Rattle.acl_perm.specs.Situation.{Situation, IsSituation, matches}
use Rattle.acl_perm.specs.declared.kind.Kind.{Kind}
use Rattle.acl_perm.specs.declared.kind.Kind.TheVariants.{Deny}
use Rattle.acl_nfs4.specs.Ace.{Ace}
use Rattle.acl_nfs4.specs.Who.{principal_of}

-- an ACE with INHERIT_ONLY takes no part (section 6.2.1.4.1)
abbrev pub takes_part : Ace → Bool
takes_part a = not (has_bit a.flags inherit_only)

-- keys in order: the principal of each, and whether it denies or allows
abbrev pub Column : Type 0
Column = List (Principal × Kind)

-- the ACEs of a list that have the bit and take part
abbrev pub column : List Ace → ℕ → Column
column list bit = map (λ a. (principal_of a, a.kind)) (filter (λ a. has_bit a.mask bit && takes_part a) list)

-- the kind of the first key whose principal passes the test
abbrev pub first_kind : (Principal → Bool) → Column → Option Kind
first_kind test [] = None
first_kind test ((p, kind) ∷ entries) = if test p then Some kind else first_kind test entries

-- what a column decides, given which principals match: the first of them decides, and without one the column denies
abbrev pub verdict : (Principal → Bool) → Column → Kind
verdict test entries = unwrap_or (first_kind test entries) Deny

-- both columns decide alike in every situation
abbrev pub SameVerdicts : Column → Column → Type 0
SameVerdicts entries others = (s : Situation) → IsSituation s
    → verdict (matches s) entries ≡ verdict (matches s) others
