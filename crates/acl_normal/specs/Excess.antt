-- Where the first of two lists grants a right that the second denies (this library's own; what a list grants is RFC
-- 8881, section 6.2.1).
use Rattle.std.specs.Prelude.{◌≡◌, ◌↔◌, ◌<◌, ◌^◌, ◌∷◌, ◌++◌, ℕ, true, IfSome, IsFalse, IsNone, IsTrue, List, Option}
use Rattle.std.specs.List.{AllByRecursion}
use Rattle.acl_eval.specs.Grant.{GrantsAtMost, grants_bit}
use Rattle.acl_nfs4.specs.Ace.{Ace}
use Rattle.acl_normal.specs.Difference.{situation_of}
use Rattle.acl_normal.specs.SmallSets.{TellsApart, small_situations}
use Rattle.acl_normal.specs.declared.comparison.Difference.{Difference}
use Rattle.acl_perm.specs.Bits.{all_rights, has_bit}
use Rattle.acl_perm.specs.Situation.{Situation}

-- in the situation, the second list grants each right that the first list grants
abbrev pub GrantsNoMore : List Ace → List Ace → Situation → Type 0
GrantsNoMore list other s = (bit : ℕ) → IsTrue (has_bit all_rights bit) → IsTrue (grants_bit list s bit)
    → IsTrue (grants_bit other s bit)

-- the lowest right that the first list grants in the situation and the second list denies, as a set of one right
pub record IsLowestExcess (list other : List Ace) (s : Situation) (mask : ℕ) : Type 0 where
  pub bit : ℕ
  pub one_bit : mask ≡ 2 ^ bit
  pub of_rights : IsTrue (has_bit all_rights bit)
  pub granted : IsTrue (grants_bit list s bit)
  pub denied : IsFalse (grants_bit other s bit)
  pub lowest : (b : ℕ) → b < bit → IsTrue (has_bit all_rights b) → IsTrue (grants_bit list s b)
      → IsTrue (grants_bit other s b)

-- the first small situation in which the first list grants a right that the second list denies, and the lowest such
-- right there
pub record IsFirstExcess (list other : List Ace) (s : Situation) (mask : ℕ) : Type 0 where
  pub before : List Situation
  pub after : List Situation
  pub place : small_situations list other ≡ before ++ s ∷ after
  pub no_more_before : AllByRecursion (GrantsNoMore list other) before
  pub right : IsLowestExcess list other s mask

-- the excess of a list over another: nothing if and only if the second grants whatever the first grants, else the first
-- place where it does not
pub record IsExcess (list other : List Ace) (found : Option Difference) : Type 0 where
  pub contained : IsNone found ↔ GrantsAtMost all_rights list other
  pub first : IfSome found (λ d. IsFirstExcess list other (situation_of d) d.bit.bits)
  pub requester : IfSome found (λ d. TellsApart list other (situation_of d) d.bit.bits true)
  pub grants : IfSome found (λ d. d.first_grants ≡ true)
