-- A list is read ACE by ACE, and what this decides about each bit.
use Rattle.std.proofs.Common.{◌≡◌, ◌≢◌, ℕ, ◌+◌, ◌%◌, ◌^◌, ◌<◌, Bool, true, false, eqb, List, [], ◌∷◌, refl, sym, ap, ◌∙◌, arith, inl, inr}
use Rattle.std.specs.Prelude.{bit_and, bit_xor, ◌&&◌, not, ◌↔◌, IsTrue}
use Rattle.std.specs.Int.{bit_at}
use Rattle.std.specs.Int.Bits.{xor_add_and, xor_self, xor_zero_r}
use Rattle.std.proofs.lemmas.Bool.{cases_Bool, true≢false, eqb-true, eq-eqb, ne_eqb, and_parts, not-true, and_left, and_right}
use Rattle.std.proofs.lemmas.Nat.{and_le_l, and_le_r, xor_lt}
use Rattle.std.proofs.lemmas.Nat.Bits.{bit_at_xor, bit_at-lt}
use Rattle.acl_perm.proofs.Sets.{has_bit-and, some_bit, no_bit, IsMask-lt}
use Rattle.acl_perm.specs.Bits.{has_bit, IsMask}
use Rattle.acl_perm.specs.Situation.{Situation}
use Rattle.acl_nfs4.specs.Ace.{Ace}
use Rattle.acl_eval.specs.Grant.{Grant, grants_bit, is_allow}
use Rattle.acl_eval.specs.Scan.{scan, applies, without}
use Rattle.acl_eval.proofs.Columns.{bit_at_first}

-- ---- one ACE of a scan

-- if no bit is left, the request is granted
pub none_left : (list : List Ace) (s : Situation) (left : ℕ) → left ≡ 0 → true ≡ scan list s left
none_left [] s left e = rw e refl
none_left (a ∷ list) s left e = rw e refl

-- an ACE without a bit that is left changes nothing
pub scan-no_common : (a : Ace) (list : List Ace) (s : Situation) (left : ℕ) → bit_and left a.mask ≡ 0
    → scan list s left ≡ scan (a ∷ list) s left
scan-no_common a list s left none = by (eqb left 0) (applies s a) (is_allow a.kind) refl refl refl
  where
    by : (z t k : Bool) → eqb left 0 ≡ z → applies s a ≡ t → is_allow a.kind ≡ k
        → scan list s left ≡ scan (a ∷ list) s left
    by true t k z e f = rw z (sym (none_left list s left (eqb-true left 0 z)))
    by false false k z e f = rw (z, e) refl
    by false true true z e f = rw (z, e, f) (ap (scan list s) (sym (ap (bit_xor left) none ∙ xor_zero_r left)))
    by false true false z e f = rw (z, e, f, none) refl

-- an ACE that does not match the requester changes nothing
pub not_applied : (a : Ace) (list : List Ace) (s : Situation) (left : ℕ) → applies s a ≡ false
    → scan list s left ≡ scan (a ∷ list) s left
not_applied a list s left e = by (eqb left 0) refl
  where
    by : (z : Bool) → eqb left 0 ≡ z → scan list s left ≡ scan (a ∷ list) s left
    by true z = rw z (sym (none_left list s left (eqb-true left 0 z)))
    by false z = rw (z, e) refl

-- an ACE that allows removes its bits from those that are left
pub scan-allowed : (a : Ace) (list : List Ace) (s : Situation) (left : ℕ) → left ≢ 0 → applies s a ≡ true
    → is_allow a.kind ≡ true → scan list s (without left a.mask) ≡ scan (a ∷ list) s left
scan-allowed a list s left some e k = rw (ne_eqb left 0 some, e, k) refl

-- an ACE that allows all bits that are left ends the scan
pub last_allowed : (a : Ace) (list : List Ace) (s : Situation) (left : ℕ) → left ≢ 0 → applies s a ≡ true
    → is_allow a.kind ≡ true → bit_and left a.mask ≡ left → true ≡ scan (a ∷ list) s left
last_allowed a list s left some e k all =
    none_left list s _ (ap (bit_xor left) all ∙ xor_self left) ∙ scan-allowed a list s left some e k

-- if an ACE does not have all bits that are left, some bit is left after it
pub some_left : (m n : ℕ) → bit_and m n ≢ m → without m n ≢ 0
some_left m n some none = some (omega (
  arith,
  none,
  xor_add_and m (bit_and m n),
  and_le_r m (bit_and m n),
  and_le_l m n,
))

-- ---- bits that are left

-- of two binary digits, the first without their product is 1 if and only if the first is 1 and the second is not
digit_taken : (d e f : ℕ) → d < 2 → e < 2 → f < 2 → (eqb f 1 ≡ (eqb d 1 && eqb e 1))
    → eqb ((d + f) % 2) 1 ≡ (eqb d 1 && not (eqb e 1))
digit_taken d e f dl el fl h = grind arith

-- a set without the bits of another one has a bit if and only if it had it and the other does not have it
pub has_bit-without : (m n k : ℕ) → has_bit (without m n) k ≡ (has_bit m k && not (has_bit n k))
has_bit-without m n k =
    ap (λ (d : ℕ). eqb d 1) (bit_at_xor m (bit_and m n) k)
    ∙ digit_taken (bit_at m k) (bit_at n k) (bit_at (bit_and m n) k)
    (bit_at-lt m k) (bit_at-lt n k) (bit_at-lt (bit_and m n) k) (has_bit-and m n k)

-- if two tests do not hold together and the first one holds, the second does not
second_lacks : (x y : Bool) → x ≡ true → (x && y) ≡ false → y ≡ false
second_lacks true y p e = e
second_lacks false y p e = absurd cc

-- an ACE that lacks the bit, or does not match the requester, leaves the bit to the rest of the list
grants_bit-skipped : (a : Ace) (list : List Ace) (s : Situation) (bit : ℕ) → (has_bit a.mask bit && applies s a) ≡ false
    → grants_bit (a ∷ list) s bit ≡ grants_bit list s bit
grants_bit-skipped a list s bit e = bit_at_first a list s bit ∙ rw e refl

-- an ACE that has the bit and matches the requester decides it by its kind
grants_bit-decided : (a : Ace) (list : List Ace) (s : Situation) (bit : ℕ) → has_bit a.mask bit ≡ true
    → applies s a ≡ true → grants_bit (a ∷ list) s bit ≡ is_allow a.kind
grants_bit-decided a list s bit h e = bit_at_first a list s bit ∙ rw (h, e) refl

-- two lists that grant each bit of a request alike grant the request alike
same_grant : (list other : List Ace) (s : Situation) (m : ℕ)
    → ((bit : ℕ) → has_bit m bit ≡ true → grants_bit list s bit ≡ grants_bit other s bit)
    → Grant list s m ↔ Grant other s m
same_grant list other s m e = (λ g bit h. sym (e bit h) ∙ g bit h, λ g bit h. e bit h ∙ g bit h)

-- an ACE that does not match the requester does not change what is granted
grant_not_applied : (a : Ace) (list : List Ace) (s : Situation) (m : ℕ) → applies s a ≡ false
    → Grant (a ∷ list) s m ↔ Grant list s m
grant_not_applied a list s m e =
    same_grant (a ∷ list) list s m
    (λ bit h. grants_bit-skipped a list s bit (and_right (has_bit a.mask bit) (applies s a) e))

-- an ACE that has no bit of a request does not change whether the request is granted
grant_passes : (a : Ace) (list : List Ace) (s : Situation) (m : ℕ) → bit_and m a.mask ≡ 0
    → Grant (a ∷ list) s m ↔ Grant list s m
grant_passes a list s m none =
    let hasnt = λ (bit : ℕ) (h : has_bit m bit ≡ true). second_lacks (has_bit m bit) (has_bit a.mask bit) h
    (sym (has_bit-and m a.mask bit) ∙ ap (λ (n : ℕ). has_bit n bit) none ∙ no_bit bit) in
    same_grant (a ∷ list) list s m
    (λ bit h. grants_bit-skipped a list s bit (and_left (has_bit a.mask bit) (applies s a) (hasnt bit h)))

-- after an ALLOW that matches the requester, the rest of the list must grant the bits that it does not have
grant_allows : (a : Ace) (list : List Ace) (s : Situation) (m : ℕ) → applies s a ≡ true → is_allow a.kind ≡ true
    → Grant (a ∷ list) s m ↔ Grant list s (without m a.mask)
grant_allows a list s m e k = (
  λ g bit h.
      let p = and_parts (has_bit m bit) (not (has_bit a.mask bit)) (sym (has_bit-without m a.mask bit) ∙ h) in
      sym (grants_bit-skipped a list s bit (and_left (has_bit a.mask bit) (applies s a) (not-true _ p.1)))
      ∙ g bit p.0,
  λ g bit h. elim (cases_Bool (has_bit a.mask bit)) [
    | inl has ↦ grants_bit-decided a list s bit has e ∙ k
    | inr hasnt ↦ grants_bit-skipped a list s bit (and_left (has_bit a.mask bit) (applies s a) hasnt)
        ∙ g bit (has_bit-without m a.mask bit ∙ rw (h, hasnt) refl)
  ],
)

-- a DENY that matches the requester and has a bit of a request denies the request
grant_denies : (a : Ace) (list : List Ace) (s : Situation) (m : ℕ) → m < 2 ^ 32 → applies s a ≡ true
    → is_allow a.kind ≡ false → bit_and m a.mask ≢ 0 → Grant (a ∷ list) s m → ⊥
grant_denies a list s m lt e k some g =
    let small : bit_and m a.mask < 2 ^ 32 = omega (arith, and_le_l m a.mask) in
    let bit = some_bit (bit_and m a.mask) small some in
    let p = and_parts (has_bit m bit.0) (has_bit a.mask bit.0) (sym (has_bit-and m a.mask bit.0) ∙ bit.1) in
    true≢false (sym (g bit.0 p.0) ∙ grants_bit-decided a list s bit.0 p.1 e ∙ k)

-- the empty request is granted
grant_none : (list : List Ace) (s : Situation) (m : ℕ) → m ≡ 0 → Grant list s m
grant_none list s m e bit h = absurd (true≢false (sym h ∙ ap (λ (n : ℕ). has_bit n bit) e ∙ no_bit bit))

-- ---- a whole scan

-- two facts that are both equivalent to a third are equivalent
iff_through : {A B C : Type 0} → A ↔ B → C ↔ B → A ↔ C
iff_through f g = (λ a. g.1 (f.0 a), λ c. f.1 (g.0 c))

-- a test that holds is equivalent to a fact that holds
by_true : (b : Bool) (G : Type 0) → b ≡ true → G → IsTrue b ↔ G
by_true b G e g = (λ _. g, λ _. e)

-- a test that does not hold is equivalent to a fact that does not hold
by_false : (b : Bool) (G : Type 0) → b ≡ false → (G → ⊥) → IsTrue b ↔ G
by_false b G e never = (λ t. absurd (true≢false (sym t ∙ e)), λ g. absurd (never g))

-- a scan grants a request if and only if each of its bits is granted alone
pub scan_is-below : (list : List Ace) (s : Situation) (m : ℕ) → m < 2 ^ 32 → IsTrue (scan list s m) ↔ Grant list s m
scan_is-below [] s m lt = (
  λ z. grant_none [] s m (eqb-true m 0 z),
  λ g. elim (cases_Bool (eqb m 0)) [
    | inl empty ↦ empty
    | inr some ↦ absurd (let bit = some_bit m lt (λ z. true≢false (sym (eq-eqb m 0 z) ∙ some)) in
        true≢false (sym (g bit.0 bit.1)))
  ],
)
scan_is-below (a ∷ list) s m lt =
    by (scan_is-below list s) (eqb m 0) (applies s a) (is_allow a.kind) (eqb (bit_and m a.mask) 0) refl refl refl refl
  where
    by : ((n : ℕ) → n < 2 ^ 32 → IsTrue (scan list s n) ↔ Grant list s n) → (z t k c : Bool) → eqb m 0 ≡ z
        → applies s a ≡ t → is_allow a.kind ≡ k → eqb (bit_and m a.mask) 0 ≡ c
        → IsTrue (scan (a ∷ list) s m) ↔ Grant (a ∷ list) s m
    by rest true t k c z e f h = by_true _ _ (rw z refl) (grant_none (a ∷ list) s m (eqb-true m 0 z))
    by rest false false k c z e f h = rw (z, e) (iff_through (rest m lt) (grant_not_applied a list s m e))
    by rest false true true c z e f h =
        let small = xor_lt 32 m (bit_and m a.mask) lt (omega (arith, and_le_l m a.mask)) in
        rw (z, e, f) (iff_through (rest (without m a.mask) small) (grant_allows a list s m e f))
    by rest false true false true z e f h =
        rw (z, e, f, h) (iff_through (rest m lt) (grant_passes a list s m (eqb-true _ _ h)))
    by rest false true false false z e f h =
        by_false _ _ (rw (z, e, f, h) refl) (grant_denies a list s m lt e f (λ n. true≢false (sym (eq-eqb _ _ n) ∙ h)))

-- a scan grants a set of rights if and only if each of them is granted alone
pub scan_is : (list : List Ace) (s : Situation) (m : ℕ) → IsMask m → IsTrue (scan list s m) ↔ Grant list s m
scan_is list s m is = scan_is-below list s m (IsMask-lt m is)
