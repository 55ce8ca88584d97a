-- What is left of a list of ACEs while its normal form is made (RFC 8881, section 6.2.1): the list, by place, with the
-- masks that are left.
use Rattle.std.specs.Prelude.{◌≡◌, ℕ, ◌<◌, false, if◌then◌else◌, ◌==◌, IsTrue, List, [], ◌∷◌, Some}
use Rattle.acl_perm.specs.Bits.{has_bit}
use Rattle.acl_perm.specs.Principal.{Principal}
use Rattle.acl_perm.specs.declared.kind.Kind.{Kind}
use Rattle.acl_nfs4.specs.Ace.{Ace}
use Rattle.acl_eval.specs.Column.{column}
use Rattle.acl_normal.specs.Normal.{is_free}
use Rattle.acl_normal.specs.Places.{first_at}

-- the ACEs with a mask that is not empty
abbrev pub left : List Ace → List Ace
left [] = []
left (a ∷ list) = if a.mask == 0 then left list else a ∷ left list

-- what is first for a principal and a right is first in the source too, at the same place
abbrev pub KeepsFirsts : List Ace → List Ace → Type 0
KeepsFirsts source list = (bit : ℕ) (p : Principal) (kind : Kind) (place : ℕ) → first_at bit p list ≡ Some (kind, place)
    → first_at bit p source ≡ Some (kind, place)

-- on one of the rights, a key of the principal is in the column and no key before it conflicts with it
abbrev pub HasFree : List Ace → Principal → ℕ → Type 0
HasFree list p bits =
    (bit : ℕ) × (kind : Kind) × IsTrue (has_bit bits bit) × IsTrue (is_free (column list bit) (p, kind))

-- the lowest of the rights
abbrev pub IsLowest : ℕ → ℕ → Type 0
IsLowest bit bits = IsTrue (has_bit bits bit) × ((other : ℕ) → other < bit → has_bit bits other ≡ false)
