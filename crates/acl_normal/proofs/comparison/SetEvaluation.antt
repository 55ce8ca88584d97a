-- What a list grants to a small set of principals, as the code finds it: for all rights at once.
use Rattle.acl_normal.proofs.Common.{Ace, ace, AceRef, aces_in, all_rights, ap, IsGrantedTo, arith, at_drop_more, bit_at, bits_from_mask, Bool, column, cond, drop, eq-eqb, everyone, false, false_from_ne_true, false≢true, GrantAlikeTo, has_bit, is_allow, is_among, is_granted_to, IsMask, IsMask-lt, IsSubset, IsTrue, IsUnion, Kind, length, List, ne_eqb, no_bit, not, or_parts, Principal, principal_of, refl, same_set, slice_index_or, subst, sym, takes_part, trailing_zeros, true, w32, ℕ, ◌&&◌, ◌+◌, ◌<◌, ◌==◌, ◌^◌, ◌||◌, ◌↔◌, ◌∙◌, ◌∷◌, ◌≡◌, ◌≢◌, only_bit, same_answers, one_bit}
use Rattle.std.specs.Bool.{OnFalse}
use Rattle.std.proofs.lemmas.Nat.Bits.{bit_at-trailing_zeros}
use Rattle.acl_normal.specs.Left.{IsLowest}
use Rattle.acl_normal.specs.internal.comparison.Directions.{differ_in}
use Rattle.acl_normal.specs.declared.comparison.direction.Direction.{Direction}
use Rattle.acl_normal.specs.internal.comparison.SetSearch.{AreDiffering, HasBitsOf, IsLowestDifference}
use Rattle.acl_perm.proofs.Sets.{mask_from_bits}

-- an ACE that has the bit, takes part and is of the set or everyone decides, and else the rest of the list does
pub granted_to-cons : (a : Ace) (rest : List Ace) (set : List Principal) (bit : ℕ)
    → is_granted_to (a ∷ rest) set bit
    ≡ cond ((has_bit a.mask bit && takes_part a) && is_among (principal_of a) (everyone ∷ set)) (is_allow a.kind)
    (is_granted_to rest set bit)
granted_to-cons a rest set bit = grind arith

-- what is granted already, and what the rest of the list grants of what is not decided
abbrev pub decides : ℕ → ℕ → List Ace → List Principal → ℕ → Bool
decides granted decided rest set bit = has_bit granted bit || (not (has_bit decided bit) && is_granted_to rest set bit)

-- the bits that an ACE grants: none if it denies, and otherwise those that were not decided before
abbrev pub IsGrantedAnew : Kind → ℕ → ℕ → ℕ → Type 0
IsGrantedAnew kind own decided anew =
    (bit : ℕ) → has_bit anew bit ≡ (is_allow kind && (has_bit own bit && not (has_bit decided bit)))

-- an ACE decides its bits, and grants those that it grants anew
ace_decides : (a : Ace) (rest : List Ace) (set : List Principal) (granted decided own anew new more bit : ℕ)
    → IsGrantedAnew a.kind own decided anew → IsUnion granted anew new → IsUnion decided own more → HasBitsOf a set own
    → decides new more rest set bit ≡ decides granted decided (a ∷ rest) set bit
ace_decides a rest set granted decided own anew new more bit d u v h =
    grind (arith, granted_to-cons a rest set bit, d bit, u bit, v bit, h.bits bit)

-- after the first i ACEs, what is granted and decided, with the rest, decides as the whole list
pub record DecidesAll (refs : List AceRef) (set : List Principal) (i granted decided : ℕ) : Type 0 where
  pub bits : (bit : ℕ) → decides granted decided (aces_in (drop i refs)) set bit ≡ is_granted_to (aces_in refs) set bit

-- after one more ACE, what is granted and decided still decides as the whole list
pub loop_more : {refs : List AceRef} {x : AceRef} {set : List Principal} {granted decided own : ℕ} (anew : ℕ)
    {new more i : ℕ}
    → i < length refs → x ≡ slice_index_or refs i x → IsGrantedAnew x.kind own decided anew → IsUnion granted anew new
    → IsUnion decided own more → HasBitsOf (ace x) set own → DecidesAll refs set i granted decided
    → DecidesAll refs set (i + 1) new more
loop_more {refs} {x} {set} {granted} {decided} {own} anew {new} {more} {i} lt at d u v h inv = record {
  bits = λ bit.
      ace_decides (ace x) (aces_in (drop (i + 1) refs)) set granted decided own anew new more bit d u v h
      ∙ ap (λ (a : AceRef). decides granted decided (ace a ∷ aces_in (drop (i + 1) refs)) set bit) at
      ∙ sym (at_drop_more (λ r. decides granted decided (aces_in r) set bit) refs i x lt) ∙ inv.bits bit;
}

-- what one list grants and the other doesn't, in the direction, is what they differ on
pub differing_are : {way : Direction} {list other : List Ace} {set : List Principal} {m n result : ℕ}
    → IsGrantedTo list set m → IsGrantedTo other set n
    → ((bit : ℕ) → has_bit result bit ≡ differ_in way (has_bit m bit) (has_bit n bit))
    → AreDiffering way list other set result
differing_are h i is = record {
  bits = λ bit. is bit ∙ rw (h.bits bit, i.bits bit) refl;
}

-- there is no right on which the lists differ if and only if they grant alike
pub none_differ : (way : Direction) (list other : List Ace) (set : List Principal) (rights : ℕ) → IsMask rights
    → AreDiffering way list other set rights → (rights ≡ 0) ↔ GrantAlikeTo way list other set
none_differ way list other set rights within h = (
  λ e bit i. sym (h.bits bit) ∙ ap (λ v. has_bit v bit) e ∙ no_bit bit,
  λ alike. same_set rights 0 (λ bit. false_from_ne_true (has_bit rights bit) (λ has. absurd (never alike bit has))
      ∙ sym (no_bit bit)),
)
  where
    never : GrantAlikeTo way list other set → (bit : ℕ) → has_bit rights bit ≡ true → ⊥
    never alike bit has =
        false≢true (sym (alike bit (bits_from_mask rights bit within has)) ∙ sym (h.bits bit) ∙ has)

-- if the rights on which the lists differ are not zero, the lists do not grant alike
pub tells_unlike : {way : Direction} {list other : List Ace} {set : List Principal} {rights : ℕ} → IsMask rights
    → AreDiffering way list other set rights → OnFalse (rights == 0) (GrantAlikeTo way list other set → ⊥)
tells_unlike {way} {list} {other} {set} {rights} within h = go (rights == 0) refl
  where
    go : (t : Bool) → (rights == 0) ≡ t → OnFalse t (GrantAlikeTo way list other set → ⊥)
    go true e = tt
    go false e = λ alike. false≢true (sym e
        ∙ eq-eqb rights 0 ((none_differ way list other set rights within h).1 alike))

-- the number of zeros at the end of a set that isn't empty is its lowest bit
pub lowest_is : (rights : ℕ) → rights ≢ 0 → IsMask rights → IsLowest (trailing_zeros w32 rights) rights
lowest_is rights ne within =
    let t = bit_at-trailing_zeros w32 rights (omega arith) (IsMask-lt rights within) in
    (ap (λ (d : ℕ). d == 1) t.1, λ b l. ne_eqb (bit_at rights b) 1 (λ e. absurd (omega (arith, t.2 b l))))

-- a bit of a set of rights is one right
pub one_right : (rights mask k : ℕ) → IsMask rights → has_bit rights k ≡ true → mask ≡ 2 ^ k → IsMask mask
one_right rights mask k within has is = mask_from_bits mask (λ b h.
    let same : b ≡ k = only_bit k b (subst (λ m. has_bit m b ≡ true) is h) in
    subst (λ v. has_bit all_rights v ≡ true) (sym same) (bits_from_mask rights k within has))

-- a set has one right as a part if and only if it has the bit
has_part : (mask granted k : ℕ) (part : Bool) → mask ≡ 2 ^ k → IsTrue part ↔ IsSubset mask granted
    → part ≡ has_bit granted k
has_part mask granted k part is h = same_answers part (has_bit granted k)
    (λ e. h.0 e k (subst (λ m. has_bit m k ≡ true) (sym is) (one_bit k)))
    (λ has. h.1 (λ b i.
    let same : b ≡ k = only_bit k b (subst (λ m. has_bit m b ≡ true) is i) in
    subst (λ v. has_bit granted v ≡ true) (sym same) has))

-- the lowest right on which the lists differ, as a set of one right, is their lowest difference
pub lowest_difference : {way : Direction} {list other : List Ace} {set : List Principal} {rights mask granted k : ℕ}
    {first : Bool} → IsMask rights → AreDiffering way list other set rights → IsLowest k rights → mask ≡ 2 ^ k
    → IsGrantedTo list set granted → IsTrue first ↔ IsSubset mask granted
    → IsLowestDifference way list other set mask first
lowest_difference {way} {list} {other} {set} {rights} {mask} {granted} {k} {first} within d l is g f = record {
  bit = k;
  one_bit = is;
  of_rights = bits_from_mask rights k within l.0;
  differs = sym (d.bits k) ∙ l.0;
  lowest = λ b lt i. sym (d.bits b) ∙ l.1 b lt;
  first = has_part mask granted k first is f ∙ g.bits k;
}

-- without the rights so far, the rest of the list has the columns of the whole
pub record Covers (refs : List AceRef) (i rights : ℕ) : Type 0 where
  pub columns : (bit : ℕ) → has_bit rights bit ≡ false
      → column (aces_in (drop i refs)) bit ≡ column (aces_in refs) bit

-- with the rights of one more ACE, the rest of the list has the columns of the whole
pub covers_more : {refs : List AceRef} {x : AceRef} {i rights more : ℕ} → i < length refs
    → x ≡ slice_index_or refs i x → IsUnion rights x.mask.bits more → Covers refs i rights → Covers refs (i + 1) more
covers_more {refs} {x} {i} {rights} lt at u h = record {
  columns = λ bit absent.
      let parts = or_parts (has_bit rights bit) (has_bit x.mask.bits bit) (sym (u bit) ∙ absent) in
      sym (first_lacks (ace (slice_index_or refs i x)) (aces_in (drop (i + 1) refs)) bit
      (ap (λ (a : AceRef). has_bit a.mask.bits bit) (sym at) ∙ parts.1))
      ∙ sym (at_drop_more (λ r. column (aces_in r) bit) refs i x lt) ∙ h.columns bit parts.0;
}
  where
    first_lacks : (a : Ace) (rest : List Ace) (bit : ℕ) → has_bit a.mask bit ≡ false
        → column (a ∷ rest) bit ≡ column rest bit
    first_lacks a rest bit e = rw e refl
