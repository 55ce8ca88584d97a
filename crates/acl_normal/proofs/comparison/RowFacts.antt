-- The least number of a principal at which two lists do not grant the same, bit by bit.
use Rattle.acl_normal.proofs.Common.{[], Ace, AgreesAt, all_mentioned, all_rights, AllZip, ap, AreFirstFrom, ArePlacings, arith, cases_eq, cases_lt, everyone, get_or_read, has_bit, inl, inr, is_allow, is_among, is_granted_to, is_user, is_users, IsPlacing, length, length-map, List, map-append, no_placing, Principal, principal, principals, refl, slice_index_or, Placing, subst, sym, take, take_more, true, TwoLists, verdict, ℕ, ◌++◌, ◌+◌, ◌<◌, ◌∙◌, ◌∷◌, ◌≡◌, ◌≤◌, ◌⊎◌}
use Rattle.acl_perm.specs.declared.principal.Principal.{Principal as PrincipalRef}
use Rattle.acl_normal.proofs.Each.{zip_at, zip_length, zip_push}
use Rattle.acl_normal.proofs.unique.Bits.{below}
use Rattle.acl_normal.proofs.comparison.Directions.{both_differ, differ_moved, never_itself}
use Rattle.acl_normal.proofs.comparison.Numbers.{principal_numbered}
use Rattle.acl_normal.specs.internal.comparison.FirstPlaces.{AlikeAlone, IsFirst, IsFirstFrom, IsLeast, OnAll, is_unlike, no_first}
use Rattle.acl_normal.specs.internal.comparison.SetSearch.{AlikeAt}
use Rattle.acl_normal.specs.internal.comparison.TwoLists.{AlikeToPairs, HaveSameColumn, principal_at}
use Rattle.acl_normal.specs.declared.comparison.direction.Direction.{Direction}
use Rattle.acl_normal.specs.declared.principal_class.Class.{Class}
use Rattle.acl_normal.specs.declared.comparison.placing.First.{First}

-- the first ACE of a principal from place 0 on is its first ACE in the list
pub first_of_all : (xs : List Ace) (b : ℕ) (p : Principal) (f : First) → IsFirstFrom xs b 0 p f → IsFirst xs b p f
first_of_all xs b p f h = let place = h.place in record { place = omega arith; allows = h.allows }

-- the placings with that of the next principal are those of the principals up to it
pub rows_more : (names : List PrincipalRef) (q : PrincipalRef) {xs ys : List Ace} {b i : ℕ}
    {heres theres : List First} {h t : First} (u : Class) {old new : List Placing} → i < length names
    → h ≡ slice_index_or heres i h → t ≡ slice_index_or theres i t
    → is_users u ≡ is_user (principal (slice_index_or names i q)) → AreFirstFrom (principals names) xs b 0 heres
    → AreFirstFrom (principals names) ys b 0 theres → new ≡ old ++ record { here = h; there = t; class = u } ∷ []
    → ArePlacings (principals (take i names)) xs ys b old → ArePlacings (principals (take (i + 1) names)) xs ys b new
rows_more names q {xs} {ys} {b} {i} {heres} {theres} {h} {t} u {old} {new} lt hi ti ui hs ts is all =
    let inside : i < length (principals names) = omega (arith, length-map names principal) in
    let s : Principal = slice_index_or (principals names) i everyone in
    let here : h ≡ slice_index_or heres i no_first = get_or_read heres i h (omega (arith, hs.count)) hi no_first in
    let there : t ≡ slice_index_or theres i no_first = get_or_read theres i t (omega (arith, ts.count)) ti no_first in
    let row : IsPlacing xs ys b s (record { here = h; there = t; class = u }) = record {
      here = subst (λ v. IsFirst xs b s v) (sym here)
          (first_of_all xs b s (slice_index_or heres i no_first) (hs.each i inside));
      there = subst (λ v. IsFirst ys b s v) (sym there)
          (first_of_all ys b s (slice_index_or theres i no_first) (ts.each i inside));
      class = ui ∙ ap is_user (sym (principal_numbered names q i lt));
    } in
    let longer : principals (take (i + 1) names) ≡ principals (take i names) ++ s ∷ [] =
    ap principals (take_more names i q lt) ∙ map-append principal (take i names) (slice_index_or names i q ∷ [])
    ∙ ap (λ v. principals (take i names) ++ v ∷ []) (sym (principal_numbered names q i lt)) in
    record {
      each = subst (λ v. AllZip (IsPlacing xs ys b) v new) (sym longer)
          (subst (λ v. AllZip (IsPlacing xs ys b) (principals (take i names) ++ s ∷ []) v) (sym is)
          (zip_push (IsPlacing xs ys b) (principals (take i names)) old s (record { here = h; there = t; class = u })
          all.each row));
    }

-- the placing at a number is that of the principal there
pub row_at : (ps : List Principal) (xs ys : List Ace) (b k : ℕ) (rows : List Placing) → k < length ps
    → AllZip (IsPlacing xs ys b) ps rows
    → IsPlacing xs ys b (slice_index_or ps k everyone) (slice_index_or rows k no_placing)
row_at ps xs ys b k rows lt z = zip_at (IsPlacing xs ys b) ps rows k everyone no_placing lt z

-- there are as many placings as principals
pub rows_length : (ps : List Principal) {xs ys : List Ace} {b : ℕ} {rows : List Placing} → ArePlacings ps xs ys b rows
    → length rows ≡ length ps
rows_length ps {xs} {ys} {b} {rows} h = zip_length (IsPlacing xs ys b) ps rows h.each

-- the least number so far, after some bits
pub record Least (Q : ℕ → ℕ → Type 0) (n bit least : ℕ) : Type 0 where
  pub within : least ≤ n
  pub before : (k : ℕ) → k < least → (b : ℕ) → b < bit → has_bit all_rights b ≡ true → Q b k
  pub at : least < n → OnAll Q least → ⊥

-- before the first bit nothing is excluded
pub least_start : (Q : ℕ → ℕ → Type 0) (n least : ℕ) → least ≡ n → Least Q n 0 least
least_start Q n least e = record
    { within = omega arith; before = λ k l b below has. absurd (omega arith); at = λ l h. absurd (omega arith) }

-- after one more bit, the least number is the old one, or a lesser one at which Q fails at some bit
pub least_step : (Q : ℕ → ℕ → Type 0) (n bit old new : ℕ) → new ≤ old → ((k : ℕ) → k < new → Q bit k)
    → (new < old → OnAll Q new → ⊥) → Least Q n bit old → Least Q n (bit + 1) new
least_step Q n bit old new le each stop h = record {
  within = omega (arith, h.within);
  before = λ k l b below has_b. at_bit k l b has_b below (cases_eq b bit);
  at = λ l all. at_end l all (cases_lt new old);
}
  where
    at_bit : (k : ℕ) → k < new → (b : ℕ) → has_bit all_rights b ≡ true → b < bit + 1 → (b ≡ bit) ⊎ (b ≡ bit → ⊥) → Q b k
    at_bit k l b has_b below (inl e) = subst (λ v. Q v k) (sym e) (each k l)
    at_bit k l b has_b below (inr n) = h.before k (omega arith) b (omega arith) has_b

    at_end : new < n → OnAll Q new → (new < old) ⊎ (old ≤ new) → ⊥
    at_end l all (inl less) = stop less all
    at_end l all (inr same) = let e : new ≡ old = omega arith in h.at (omega arith) (subst (λ v. OnAll Q v) e all)

-- a bit at which Q holds of each number leaves the least number as it is
pub least_skip : {Q : ℕ → ℕ → Type 0} {n bit least : ℕ} → ((k : ℕ) → Q bit k) → Least Q n bit least
    → Least Q n (bit + 1) least
least_skip {Q} {n} {bit} {least} all h =
    least_step Q n bit least least (omega arith) (λ k l. all k) (λ l. absurd (omega (arith, l))) h

-- after the last bit the least number is known
pub least_done : {Q : ℕ → ℕ → Type 0} {n bit least : ℕ} → 21 ≤ bit → Least Q n bit least → IsLeast (OnAll Q) n least
least_done le h =
    record { within = h.within; before = λ k l b has. h.before k l b (omega (arith, below b has)) has; at = h.at }

-- the lists differ for a principal alone if its placing is unlike
pub not_alone_from_row : (way : Direction) (ps : List Principal) (xs ys : List Ace) (b k : ℕ) (rows : List Placing)
    → k < length ps → ArePlacings ps xs ys b rows → is_unlike way (slice_index_or rows k no_placing) ≡ true
    → AlikeAlone way xs ys ps b k → ⊥
not_alone_from_row way ps xs ys b k rows lt h n = let r = row_at ps xs ys b k rows lt h.each in
    both_differ way _ _ (differ_moved way (sym r.here.allows) (sym r.there.allows) n)

-- ---- two lists that are compared

-- lists with the same column at a bit do not differ on it for any set
pub same_alike : (both : TwoLists) (bit : ℕ) (set : List Principal) → HaveSameColumn both bit
    → AlikeAt both.direction both.first both.second set bit
same_alike both bit set h =
    differ_moved both.direction (ap (λ c. is_allow (verdict (λ r. is_among r (everyone ∷ set)) c)) h) refl
    (never_itself both.direction (is_granted_to both.second set bit))

-- lists with the same column at a bit agree on it at each principal with any others
same_agree : (both : TwoLists) (bit : ℕ) (p : Principal) (ps : List Principal) → HaveSameColumn both bit
    → AgreesAt both.direction both.first both.second ps bit p
same_agree both bit p [] h = tt
same_agree both bit p (q ∷ ps) h =
    (λ _. same_alike both bit (p ∷ q ∷ []) h, same_agree both bit p ps h)

-- lists with the same column at a bit grant it alike to each principal with all
pub same_pairs : (both : TwoLists) (bit : ℕ) → HaveSameColumn both bit → (k : ℕ) → AlikeToPairs both bit k
same_pairs both bit h k = same_agree both bit (principal_at both k) (all_mentioned both) h
