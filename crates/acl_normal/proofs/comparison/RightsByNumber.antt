-- The rights of the ACEs that name each principal, by its number.
use Rattle.acl_normal.proofs.Common.{[], Ace, ace, AceRef, aces_in, AllByRecursion, ap, AreWhoms, arith, Bool, cases_eq, eq-eqb, Everyone, everyone, false, get_or-map, get_or-set_other, get_or-set_same, has_bit, inl, inr, length, length-map, length-set, List, Mask, mask_numbers, ne_eqb, no_ace, Nobody, One, Principal, refl, slice_index_or, slice_set, subst, sym, true, TwoLists, Whom, ℕ, ◌&&◌, ◌+◌, ◌<◌, ◌==◌, ◌||◌, ◌∙◌, ◌∷◌, ◌≡◌, ◌⊎◌}
use Rattle.std.proofs.lemmas.Bool.{or_parts}
use Rattle.acl_normal.proofs.Each.{all_at, all_from}
use Rattle.acl_normal.proofs.comparison.FirstPlaceLemmas.{whom_at}
use Rattle.acl_normal.specs.internal.comparison.FirstPlaces.{hits, IsWhomWithin, names_all}
use Rattle.acl_normal.specs.internal.comparison.Columns.{AddRights, AddsTo, AreRightsByNumber, IsUnnamed, names_number, mask_at_number}
use Rattle.acl_normal.specs.internal.comparison.TwoLists.{all_mentioned}
use Rattle.acl_normal.proofs.rows.MaskNumbers.{bits_set}

-- a number that is not the one that is named is met only by everyone
unnamed_hits : (w : Whom) (k : ℕ) → names_number w k ≡ false → hits w k ≡ names_all w
unnamed_hits Nobody k h = refl
unnamed_hits (One i) k h = h
unnamed_hits Everyone k h = refl

-- of two tests the first fails if the second passes and both do not
first_fails : (x y : Bool) → (x && y) ≡ false → y ≡ true → x ≡ false
first_fails x y h e = grind arith

-- no ACE of a list with a right that was not added for a principal names it
pub unnamed_of : (whole : List Principal) (list : List Ace) (ws : List Whom) {old new : List Mask} (k bit : ℕ)
    → AreWhoms whole list ws → AddRights (length list) list ws old new → k < length old → k < length whole
    → has_bit (mask_at_number new k) bit ≡ false → IsUnnamed list bit (slice_index_or whole k everyone)
unnamed_of whole list ws k bit all h lt inside absent = record {
  each = all_from _ list no_ace (λ i li has.
      let w = whom_at whole list ws i li all in
      w.hit k inside
      ∙ unnamed_hits (slice_index_or ws i Nobody) k (first_fails _ _ (h.each k bit i lt absent li) has) ∙ sym w.all);
}

-- if the mask at a named number is united with some rights, these are added there
pub adds_none : (w : Whom) {more : ℕ} {old : List Mask} → ((k : ℕ) → w ≡ One k → ⊥) → AddsTo w more old old
adds_none Nobody {more} {old} other = record { count = refl; each = λ k bit lk. grind arith }
adds_none (One i) {more} {old} other = absurd (other i refl)
adds_none Everyone {more} {old} other = record { count = refl; each = λ k bit lk. grind arith }

-- an ACE adds its rights to those of the principal that it names
pub adds_one : {old new : List Mask} {i more : ℕ} (m : Mask) {d : Mask} → i < length old → d ≡ slice_index_or old i d
    → ((bit : ℕ) → has_bit m.bits bit ≡ (has_bit d.bits bit || has_bit more bit)) → new ≡ slice_set old i m
    → AddsTo (One i) more old new
adds_one {old} {new} {i} {more} m {d} lt at union is = record {
  count = ap length is ∙ length-set old i m;
  each = λ k bit lk. ap (λ v. has_bit (slice_index_or (mask_numbers v) k 0) bit) is
      ∙ ap (λ v. has_bit (slice_index_or v k 0) bit) (bits_set old i m) ∙ go k bit (cases_eq k i);
}
  where
    or_none : (x : Bool) → (x || false) ≡ x
    or_none x = grind arith

    there : slice_index_or (mask_numbers old) i 0 ≡ d.bits
    there = get_or-map (λ (v : Mask). v.bits) old i d 0 lt ∙ ap (λ (v : Mask). v.bits) (sym at)

    go : (k bit : ℕ) → (k ≡ i) ⊎ (k ≡ i → ⊥)
        → has_bit (slice_index_or (slice_set (mask_numbers old) i m.bits) k 0) bit
        ≡ (has_bit (mask_at_number old k) bit || ((k == i) && has_bit more bit))
    go k bit (inl e) =
        ap (λ v. has_bit (slice_index_or (slice_set (mask_numbers old) i m.bits) v 0) bit) e
        ∙ ap (λ v. has_bit v bit)
        (get_or-set_same (mask_numbers old) i m.bits 0 (omega (arith, lt, length-map old (λ (v : Mask). v.bits))))
        ∙ union bit
        ∙ sym (rw (eq-eqb k i e) (ap (λ v. has_bit (mask_at_number old v) bit || has_bit more bit) e
        ∙ ap (λ v. has_bit v bit || has_bit more bit) there))
    go k bit (inr n) =
        ap (λ v. has_bit v bit) (get_or-set_other (mask_numbers old) i k m.bits 0 n)
        ∙ sym (rw (ne_eqb k i n) (or_none (has_bit (mask_at_number old k) bit)))

-- after one more ACE, its rights were added too
pub add_more : (list : List Ace) (ws : List Whom) {start old new : List Mask} (i : ℕ)
    → AddsTo (slice_index_or ws i Nobody) (slice_index_or list i no_ace).mask old new
    → AddRights i list ws start old → AddRights (i + 1) list ws start new
add_more list ws {start} {old} {new} i one h = record {
  count = one.count ∙ h.count;
  before = λ k bit lk e. h.before k bit lk (parts k bit lk e).0;
  each = λ k bit j lk e lj. at k bit j lk e lj (cases_eq j i);
}
  where
    parts : (k bit : ℕ) → k < length start → has_bit (mask_at_number new k) bit ≡ false
        → (has_bit (mask_at_number old k) bit ≡ false)
        × ((names_number (slice_index_or ws i Nobody) k && has_bit (slice_index_or list i no_ace).mask bit) ≡ false)
    parts k bit lk e = or_parts _ _ (sym (one.each k bit (omega (arith, lk, h.count))) ∙ e)

    at : (k bit j : ℕ) → k < length start → has_bit (mask_at_number new k) bit ≡ false → j < i + 1
        → (j ≡ i) ⊎ (j ≡ i → ⊥)
        → (names_number (slice_index_or ws j Nobody) k && has_bit (slice_index_or list j no_ace).mask bit) ≡ false
    at k bit j lk e lj (inl same) = subst
        (λ v. (names_number (slice_index_or ws v Nobody) k && has_bit (slice_index_or list v no_ace).mask bit) ≡ false)
        (sym same) (parts k bit lk e).1
    at k bit j lk e lj (inr other) = h.each k bit j lk (parts k bit lk e).0 (omega (arith, lj, other))

-- the rights of all ACEs of both lists, added from none, are the rights by number
pub rights_by_number : (both : TwoLists) (first second : List Whom) {start middle end : List Mask}
    → length start ≡ length (all_mentioned both)
    → AreWhoms (all_mentioned both) both.first first → AreWhoms (all_mentioned both) both.second second
    → AddRights (length both.first) both.first first start middle
    → AddRights (length both.second) both.second second middle end → AreRightsByNumber both end
rights_by_number both first second count here there one two = record {
  count = two.count ∙ one.count ∙ count;
  each = λ k bit lk absent. record {
    first = unnamed_of (all_mentioned both) both.first first k bit here one
        (omega (arith, lk, one.count, two.count)) (omega (arith, lk, one.count, two.count, count))
        (two.before k bit (omega (arith, lk, two.count)) absent);
    second = unnamed_of (all_mentioned both) both.second second k bit there two
        (omega (arith, lk, two.count)) (omega (arith, lk, one.count, two.count, count)) absent;
  };
}

-- the number that an ACE names is within the numbers
pub whom_in : (ws : List Whom) {n m i : ℕ} → m ≡ n → i < length ws
    → AllByRecursion (λ w. IsWhomWithin w n) ws → IsWhomWithin (slice_index_or ws i Nobody) m
whom_in ws {n} {m} {i} e lt all = subst (λ v. IsWhomWithin (slice_index_or ws i Nobody) v) (sym e)
    (all_at (λ w. IsWhomWithin w n) ws i Nobody lt all)

-- each number that an ACE names is that of a principal
pub whoms_within : (whole : List Principal) (list : List Ace) (ws : List Whom) {n : ℕ} → n ≡ length whole
    → AreWhoms whole list ws → AllByRecursion (λ w. IsWhomWithin w n) ws
whoms_within whole [] [] e z = tt
whoms_within whole (a ∷ list) (w ∷ ws) e z =
    (subst (IsWhomWithin w) (sym e) z.0.within, whoms_within whole list ws e z.1)
whoms_within whole [] (w ∷ ws) e z = absurd z
whoms_within whole (a ∷ list) [] e z = absurd z

-- the rights of the ACE at a place are added, as the code holds it
pub add_at : (refs : List AceRef) (ws : List Whom) {x : AceRef} {start old new : List Mask} {i : ℕ} → i < length refs
    → x ≡ slice_index_or refs i x → AddsTo (slice_index_or ws i Nobody) x.mask.bits old new
    → AddRights i (aces_in refs) ws start old → AddRights (i + 1) (aces_in refs) ws start new
add_at refs ws {x} {start} {old} {new} {i} lt at one =
    add_more (aces_in refs) ws i
    (subst (λ a. AddsTo (slice_index_or ws i Nobody) a.mask old new)
    (ap ace at ∙ sym (get_or-map ace refs i x no_ace lt)) one)
