-- The rights on which two lists may differ (this library's own).
use Rattle.std.specs.Prelude.{◌≡◌, ℕ, Bool, false, not, ◌&&◌, List}
use Rattle.acl_eval.specs.Column.{column}
use Rattle.acl_nfs4.specs.Ace.{Ace}
use Rattle.acl_normal.specs.internal.comparison.FirstPlaces.{names_any, same_whom}
use Rattle.acl_normal.specs.Keys.{kind_eq}
use Rattle.acl_normal.specs.declared.comparison.differing_rights.Statement.{Statement}
use Rattle.acl_normal.specs.declared.comparison.placing.Whom.{Whom}
use Rattle.acl_perm.specs.Bits.{has_bit}

-- on each right but these, both lists have the same ACEs that take part, in the same order
pub record AreApart (list other : List Ace) (mask : ℕ) : Type 0 where
  pub same : (bit : ℕ) → has_bit mask bit ≡ false → column list bit ≡ column other bit

-- the rights of an ACE that names someone, except these
pub record HasOpenBits (a : Ace) (w : Whom) (apart mask : ℕ) : Type 0 where
  pub bits : (bit : ℕ) → has_bit mask bit ≡ ((has_bit a.mask bit && names_any w) && not (has_bit apart bit))

-- two ACEs name the same, and both allow or both deny
abbrev pub have_same_key : Statement → Statement → Bool
have_same_key s t = kind_eq s.kind t.kind && same_whom s.whom t.whom
