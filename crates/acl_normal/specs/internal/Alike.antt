-- Columns of keys (RFC 8881, section 6.2.1) without a key that plays no part, and columns in which, of each two
-- overlapping principals, the same one comes first (this library's own).
use Rattle.std.specs.Prelude.{◌≡◌, Bool, true, ◌||◌, ◌∷◌, ◌++◌}
use Rattle.acl_perm.specs.Principal.{Principal, everyone}
use Rattle.acl_perm.specs.Overlap.{may_overlap}
use Rattle.acl_eval.specs.Column.{Column, first_kind, SameVerdicts}
use Rattle.acl_normal.specs.Keys.{ColumnKey, principal_eq}

-- without any of its keys the column would decide otherwise in some situation
abbrev pub IsIrreducible : Column → Type 0
IsIrreducible c = (before : Column) (e : ColumnKey) (after : Column) → c ≡ before ++ e ∷ after
    → SameVerdicts c (before ++ after) → ⊥

-- one of two principals
abbrev pub is_either : Principal → Principal → Principal → Bool
is_either p q x = principal_eq x p || principal_eq x q

-- one of two principals, or everyone
abbrev pub is_either_or_everyone : Principal → Principal → Principal → Bool
is_either_or_everyone p q x = is_either p q x || principal_eq x everyone

-- of each two principals that overlap, the one that comes first has the same kind in both columns; so both columns have
-- the same keys, and those that conflict are in the same order
abbrev pub IsAlike : Column → Column → Type 0
IsAlike c d = (p q : Principal) → may_overlap p q ≡ true
    → first_kind (is_either p q) c ≡ first_kind (is_either p q) d
