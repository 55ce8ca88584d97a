-- Whether whoever gets a right from a list also gets some others (this library's own; what a list grants is RFC 8881,
-- section 6.2.1).
use Rattle.std.specs.Prelude.{◌≡◌, ◌↔◌, ◌<◌, ◌^◌, ◌∷◌, ◌++◌, [], ℕ, false, IfSome, IsFalse, IsNone, IsTrue, List, Option}
use Rattle.std.specs.List.{AllByRecursion}
use Rattle.acl_eval.specs.Grant.{Grant, grants_bit}
use Rattle.acl_nfs4.specs.Ace.{Ace}
use Rattle.acl_normal.specs.Difference.{situation_of}
use Rattle.acl_normal.specs.SmallSets.{small_situations}
use Rattle.acl_normal.specs.declared.comparison.Difference.{Difference}
use Rattle.acl_perm.specs.Bits.{has_bit}
use Rattle.acl_perm.specs.Situation.{IsSituation, Situation}

-- in the situation, the list denies a right or grants each of some others
abbrev pub ImpliesIn : List Ace → ℕ → ℕ → Situation → Type 0
ImpliesIn list right others s = IsTrue (grants_bit list s right) → Grant list s others

-- in every situation in which the list grants a right, it grants each of some others
abbrev pub Implies : List Ace → ℕ → ℕ → Type 0
Implies list right others = (s : Situation) → IsSituation s → ImpliesIn list right others s

-- in the situation, the list grants the right; and the lowest of the others that it denies there, as a set of one right
pub record IsLowestMissing (list : List Ace) (right others : ℕ) (s : Situation) (mask : ℕ) : Type 0 where
  pub bit : ℕ
  pub one_bit : mask ≡ 2 ^ bit
  pub of_others : IsTrue (has_bit others bit)
  pub granted : IsTrue (grants_bit list s right)
  pub denied : IsFalse (grants_bit list s bit)
  pub lowest : (b : ℕ) → b < bit → IsTrue (has_bit others b) → IsTrue (grants_bit list s b)

-- the first small situation of the list in which it grants the right and denies one of the others, and the lowest of
-- the others that it denies there
pub record IsFirstMissing (list : List Ace) (right others : ℕ) (s : Situation) (mask : ℕ) : Type 0 where
  pub before : List Situation
  pub after : List Situation
  pub place : small_situations list [] ≡ before ++ s ∷ after
  pub implied_before : AllByRecursion (ImpliesIn list right others) before
  pub missing : IsLowestMissing list right others s mask

-- what a right implies: nothing is missing if and only if whoever is granted the right is granted the others, else the
-- first of the others that is missing, which the list denies
pub record IsImplication (list : List Ace) (right others : ℕ) (missing : Option Difference) : Type 0 where
  pub implied : IsNone missing ↔ Implies list right others
  pub first : IfSome missing (λ d. IsFirstMissing list right others (situation_of d) d.bit.bits)
  pub requester : IfSome missing (λ d. IsSituation (situation_of d))
  pub denied : IfSome missing (λ d. d.first_grants ≡ false)
