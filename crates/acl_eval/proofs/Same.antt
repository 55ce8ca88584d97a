-- Lists that grant the same.
use Rattle.std.proofs.Common.{◌≡◌, ℕ, ◌^◌, true, List, refl, sym, ap, subst, ◌∙◌, arith, inl, inr}
use Rattle.std.proofs.lemmas.Bool.{cases_eq, eqb-true}
use Rattle.std.proofs.lemmas.Nat.Bits.{bit_at-pow_same, bit_at-pow_other}
use Rattle.std.specs.Prelude.{◌↔◌, IsTrue}
use Rattle.std.specs.Int.{bit_at}
use Rattle.acl_perm.proofs.Bools.{same_answers}
use Rattle.acl_perm.proofs.Orders.{kinds_alike}
use Rattle.acl_perm.specs.Bits.{has_bit, IsSubset}
use Rattle.acl_perm.specs.Situation.{Situation, IsSituation}
use Rattle.acl_nfs4.specs.Ace.{Ace}
use Rattle.acl_eval.specs.Column.{column, SameVerdicts}
use Rattle.acl_eval.specs.Grant.{Grant, GrantsAtMost, SameGrants, grants_bit, is_allow}
use Rattle.acl_eval.specs.Laws.{IsEquivalence}

-- granting the same is an equivalence
pub equivalence : (rights : ℕ) → IsEquivalence (SameGrants rights)
equivalence rights = record {
  reflexive = λ list s valid request within. (λ g. g, λ g. g);
  symmetric = λ list other same s valid request within. let both = same s valid request within in (both.1, both.0);
  transitive = λ list other third same then s valid request within.
      let both = same s valid request within in
      let more = then s valid request within in
      (λ g. more.0 (both.0 g), λ g. both.1 (more.1 g));
}

-- a power of two has its own bit
pub one_bit : (k : ℕ) → has_bit (2 ^ k) k ≡ true
one_bit k = rw (bit_at-pow_same k) refl

-- a power of two has no other bit than its own
pub only_bit : (k i : ℕ) → has_bit (2 ^ k) i ≡ true → i ≡ k
only_bit k i h = elim (cases_eq i k) [
  | inl e ↦ e
  | inr n ↦ absurd (let zero = bit_at-pow_other k i n in let one = eqb-true (bit_at (2 ^ k) i) 1 h in omega arith)
]

-- a request of one bit is granted if and only if the bit is
pub grant_one : (list : List Ace) (s : Situation) (k : ℕ) → Grant list s (2 ^ k) ↔ (grants_bit list s k ≡ true)
grant_one list s k = (
  λ g. g k (one_bit k),
  λ g i h. subst (λ (n : ℕ). grants_bit list s n ≡ true) (sym (only_bit k i h)) g,
)

-- lists grant the same if and only if they grant each bit alike
pub by_bits : (rights : ℕ) (list other : List Ace) → SameGrants rights list other
    ↔ ((s : Situation) → IsSituation s → (bit : ℕ) → IsTrue (has_bit rights bit)
    → grants_bit list s bit ≡ grants_bit other s bit)
by_bits rights list other = (
  λ same s valid bit has.
      let inside : IsSubset (2 ^ bit) rights =
      λ i h. subst (λ (n : ℕ). has_bit rights n ≡ true) (sym (only_bit bit i h)) has in
      let both = same s valid (2 ^ bit) inside in
      let here = grant_one list s bit in
      let there = grant_one other s bit in
      same_answers _ _ (λ g. there.0 (both.0 (here.1 g))) (λ g. here.0 (both.1 (there.1 g))),
  λ alike s valid request within. (
    λ g bit h. sym (alike s valid bit (within bit h)) ∙ g bit h,
    λ g bit h. alike s valid bit (within bit h) ∙ g bit h,
  ),
)

-- a list grants at most what another grants if and only if it does so bit by bit
pub at_most_by_bits : (rights : ℕ) (list other : List Ace) → GrantsAtMost rights list other
    ↔ ((s : Situation) → IsSituation s → (bit : ℕ) → IsTrue (has_bit rights bit)
    → IsTrue (grants_bit list s bit) → IsTrue (grants_bit other s bit))
at_most_by_bits rights list other = (
  λ within s valid bit has granted.
      let inside : IsSubset (2 ^ bit) rights =
      λ i h. subst (λ (n : ℕ). has_bit rights n ≡ true) (sym (only_bit bit i h)) has in
      (grant_one other s bit).0 (within s valid (2 ^ bit) inside ((grant_one list s bit).1 granted)),
  λ each s valid request within granted bit h. each s valid bit (within bit h) (granted bit h),
)

-- lists grant the same if and only if their columns decide alike
pub by_columns : (rights : ℕ) (list other : List Ace) → SameGrants rights list other
    ↔ ((bit : ℕ) → IsTrue (has_bit rights bit) → SameVerdicts (column list bit) (column other bit))
by_columns rights list other =
    let bits = by_bits rights list other in (
      λ same bit has s valid. kinds_alike _ _ (bits.0 same s valid bit has),
      λ alike. bits.1 (λ s valid bit has. ap is_allow (alike bit has s valid)),
    )
