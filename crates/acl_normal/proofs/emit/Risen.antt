-- The numbers of the keys show whether they rise, and the list without its empty ACEs is made place by place.
use Rattle.acl_normal.proofs.Common.{aces_with, Ace, AceRef, AllByRecursion, AreRowNumbers, Bool, ColumnKey, Equal, Greater, HasRisen, IsAccepted, IsNormalFormOf, IsReducedOf, Less, List, Mask, Ordering, [], ace_key, all_cleared, ap, arith, cleared, compare_keys, drop, eqb-false, false, full, is_le, is_principal_of, key_here, key_number, key_order, key_record, kind_rank, left, length, map-append, mask_here, mask_numbers, ne_eqb, refl, slice_index_or, subst, suc, sym, take, take_all, take_more, true, with_masks, zero, ℕ, ⊎_elim, ◌*◌, ◌++◌, ◌+◌, ◌<◌, ◌==◌, ◌∙◌, ◌∷◌, ◌≡◌, ◌≢◌, ◌≤◌}
use Rattle.acl_nfs4.proofs.Exports.{front_accepted}
use Rattle.acl_eval.proofs.Children.{moved}
use Rattle.acl_normal.specs.internal.emit.Rising.{IsRising}
use Rattle.acl_normal.proofs.emit.Marks.{number_order}
use Rattle.acl_normal.proofs.emit.RisingKeys.{rising_form}
use Rattle.acl_normal.proofs.rows.BitsTaken.{key_there}
use Rattle.acl_normal.proofs.rows.Rows.{named_here, row_below}
use Rattle.acl_normal.proofs.rows.ByPlace.{mask_there}
use Rattle.acl_normal.proofs.unique.Outline.{masked_count}
use Rattle.acl_normal.proofs.unique.Taken.{form_of_reduced}
use Rattle.acl_normal.proofs.Each.{before_or_at, split_there}
use Rattle.acl_normal.proofs.rows.MaskNumbers.{bits_at}

-- keys whose numbers rise rise
number_less : (k l : ColumnKey) (xs : List Ace) → is_principal_of k.0 xs ≡ true → is_principal_of l.0 xs ≡ true
    → key_number k xs < key_number l xs → compare_keys k l ≡ Less
number_less k l xs h i less = go (compare_keys k l) refl
  where
    go : (o : Ordering) → compare_keys k l ≡ o → compare_keys k l ≡ Less
    go Less e = e
    go Equal e =
        let same = (key_order.equal (key_record k) (key_record l)).0 e in
        let principals : k.0 ≡ l.0 = ap (λ r. r.principal) same in
        let kinds : k.1 ≡ l.1 = ap (λ r. r.kind) same in
        let numbers : key_number k xs ≡ key_number l xs = λ j. key_number (principals j, kinds j) xs in
        absurd (omega (arith, less, numbers))
    go Greater e =
        let le = number_order k l xs h i (omega (arith, less)) in
        let no : is_le Greater ≡ true = ap is_le (sym e) ∙ le in
        absurd (cc)

-- what holds of the key at each place with a mask holds of the keys without the empty ACEs
all_left : (P : ColumnKey → Type 0) (xs : List Ace)
    → ((j : ℕ) → j < length xs → mask_here xs j ≢ 0 → P (key_here xs j))
    → AllByRecursion (λ a. P (ace_key a)) (left xs)
all_left P [] h = tt
all_left P (a ∷ xs) h = go (a.mask == 0) refl (all_left P xs (λ j l some. h (suc j) (omega (arith, l)) some))
  where
    go : (t : Bool) → (a.mask == 0) ≡ t → AllByRecursion (λ x. P (ace_key x)) (left xs)
        → AllByRecursion (λ x. P (ace_key x)) (left (a ∷ xs))
    go true e rest = rw e rest
    go false e rest = rw e (h 0 (omega arith) (eqb-false a.mask 0 e), rest)

-- if the keys with a mask rise place by place, the list without its empty ACEs rises
rises_from : (whole xs : List Ace) → ((i : ℕ) → i < length xs → is_principal_of (key_here xs i).0 whole ≡ true)
    → ((i j : ℕ) → i < j → j < length xs → mask_here xs i ≢ 0 → mask_here xs j ≢ 0
    → key_number (key_here xs i) whole < key_number (key_here xs j) whole)
    → IsRising (left xs)
unfolding Rattle.std.specs.List.Sorted.IsStrictlySortedBy
rises_from whole [] named rise = tt
rises_from whole (a ∷ xs) named rise =
    go (a.mask == 0) refl
    (rises_from whole xs (λ i l. named (suc i) (omega (arith, l)))
    (λ i j less l some more. rise (suc i) (suc j) (omega (arith, less)) (omega (arith, l)) some more))
  where
    go : (t : Bool) → (a.mask == 0) ≡ t → IsRising (left xs) → IsRising (left (a ∷ xs))
    go true e rest = rw e rest
    go false e rest = rw e (
      all_left (λ k. compare_keys (ace_key a) k ≡ Less) xs
          (λ j l some. number_less (ace_key a) (key_here xs j) whole (named 0 (omega arith))
          (named (suc j) (omega (arith, l)))
          (rise 0 (suc j) (omega arith) (omega (arith, l)) (eqb-false a.mask 0 e) some)),
      rest,
    )

-- ---- the look

-- a place with an empty mask is passed
pub risen_past : (xs : List Ace) (place bound : ℕ) → mask_here xs place ≡ 0 → HasRisen xs place bound
    → HasRisen xs (place + 1) bound
risen_past xs place bound none h = record {
  rising = λ i j less l some more. ⊎_elim (λ (s : j < place). h.rising i j less s some more)
      (λ (e : j ≡ place). absurd (more (ap (mask_here xs) e ∙ none))) (before_or_at j place l);
  below = λ i l some. ⊎_elim (λ (s : i < place). h.below i s some)
      (λ (e : i ≡ place). absurd (some (ap (mask_here xs) e ∙ none))) (before_or_at i place l);
}

-- a place whose number is at least the bound may have a mask, and its number is below the next bound
pub risen_more : (xs : List Ace) (place bound number : ℕ) → number ≡ key_number (key_here xs place) xs
    → bound ≤ number → HasRisen xs place bound → HasRisen xs (place + 1) (number + 1)
risen_more xs place bound number is least h = record {
  rising = λ i j less l some more. ⊎_elim (λ (s : j < place). h.rising i j less s some more)
      (λ (e : j ≡ place). subst (λ v. key_number (key_here xs i) xs < key_number (key_here xs v) xs) (sym e)
      (omega (arith, is, least, h.below i (omega (arith, less, e)) some))) (before_or_at j place l);
  below = λ i l some. ⊎_elim
      (λ (s : i < place).
      let under = h.below i s some in
      omega (arith, under, least))
      (λ (e : i ≡ place). subst (λ v. key_number (key_here xs v) xs < number + 1) (sym e) (omega (arith, is)))
      (before_or_at i place l);
}

-- after the last place, the list without its empty ACEs rises
pub all_risen : (xs : List Ace) (place bound : ℕ) → length xs ≤ place → HasRisen xs place bound → IsRising (left xs)
all_risen xs place bound end h =
    rises_from xs xs (λ i l. named_here xs i l)
    (λ i j less l some more. h.rising i j less (omega (arith, l, end)) some more)

-- twice the row of a place and the rank of its kind are the number of its key
pub number_there : (aces : List AceRef) (masks rows : List ℕ) (i : ℕ) (x : AceRef) (rank : ℕ)
    → AreRowNumbers (with_masks aces masks) rows → i < length (with_masks aces masks)
    → x ≡ slice_index_or aces i x → rank ≡ kind_rank x.kind
    → 2 * slice_index_or rows i 0 + rank ≡ key_number (key_here (with_masks aces masks) i) (with_masks aces masks)
number_there aces masks rows i x rank numbers within is of_kind =
    let xs = with_masks aces masks in
    let kind : kind_rank x.kind ≡ kind_rank (key_here xs i).1 =
    ap (λ a. kind_rank a.kind) is ∙ ap (λ k. kind_rank k.1) (key_there aces masks i x within) in
    let row = numbers.at i within in
    omega (arith, of_kind, kind, row)

-- twice the row of a place, and two more, are at most twice the number of ACEs
pub number_few : (xs : List Ace) (rows : List ℕ) (i : ℕ) → AreRowNumbers xs rows → i < length xs
    → 2 * slice_index_or rows i 0 + 2 ≤ 2 * length xs
number_few xs rows i numbers within =
    let row = numbers.at i within in
    let below = row_below (key_here xs i).0 xs (named_here xs i within) in
    omega (arith, row, below)

-- ---- a place of the ACEs and the masks of the code

-- the row of a place is there, and twice the row, and two more, are at most twice the number of ACEs
pub record HasRow (count place : ℕ) (rows : List ℕ) : Type 0 where
  pub there : place < length rows
  pub few : 2 * slice_index_or rows place 0 + 2 ≤ 2 * count

-- the row of a place of a list in memory is there and small
pub has_row : (aces : List AceRef) (masks : List Mask) (rows : List ℕ) (place : ℕ) → length masks ≡ length aces
    → AreRowNumbers (aces_with aces masks) rows → place < length aces → HasRow (length aces) place rows
has_row aces masks rows place same numbers l =
    let count = masked_count aces masks same in
    let within : place < length (aces_with aces masks) = omega (arith, count, l) in
    record {
      there = omega (arith, count, numbers.count, l);
      few = omega (arith, count, number_few (aces_with aces masks) rows place numbers within);
    }

-- the code's mask at a place is the mask there
pub mask_of : (aces : List AceRef) (masks : List Mask) (place : ℕ) (m : Mask) → length masks ≡ length aces
    → place < length aces → m ≡ slice_index_or masks place m
    → mask_here (aces_with aces masks) place ≡ m.bits
mask_of aces masks place m same l is =
    sym (mask_there aces (mask_numbers masks) place 0 (omega (arith, masked_count aces masks same, l)))
    ∙ bits_at masks place 0 m (omega (arith, same, l)) is

-- ---- the list without its empty ACEs, place by place

-- what is left of two lists together is what is left of each
left_append : (xs ys : List Ace) → left (xs ++ ys) ≡ left xs ++ left ys
left_append [] ys = refl
left_append (a ∷ xs) ys = go (a.mask == 0) refl (left_append xs ys)
  where
    go : (t : Bool) → (a.mask == 0) ≡ t → left (xs ++ ys) ≡ left xs ++ left ys
        → left (a ∷ (xs ++ ys)) ≡ left (a ∷ xs) ++ left ys
    go true e ih = rw e ih
    go false e ih = rw e (ap (λ v. a ∷ v) ih)

-- an ACE with a mask is left
one_left : (e : Ace) → e.mask ≢ 0 → left (e ∷ []) ≡ e ∷ []
one_left e some = rw (ne_eqb e.mask 0 some) refl

-- an ACE with an empty mask is not left
none_left : (e : Ace) → e.mask ≡ 0 → left (e ∷ []) ≡ []
none_left e none = rw none refl

-- the ACE at a place of the shown list has the fields of the code's ACE and the mask there
pub shown_there : (aces : List AceRef) (masks : List ℕ) (i : ℕ) (d : Ace) (x : AceRef) (m : ℕ)
    → i < length (with_masks aces masks)
    → slice_index_or (with_masks aces masks) i d ≡ record {
      kind = (slice_index_or aces i x).kind;
      flags = (slice_index_or aces i x).flags.bits;
      mask = slice_index_or masks i m;
      who = (slice_index_or aces i x).who.now;
    }
shown_there [] masks i d x m l = absurd (omega arith)
shown_there (a ∷ aces) [] i d x m l = absurd (omega arith)
shown_there (a ∷ aces) (n ∷ masks) zero d x m l = refl
shown_there (a ∷ aces) (n ∷ masks) (suc i) d x m l = shown_there aces masks i d x m (omega arith)

-- the code's ACE with a mask
abbrev pub shown : AceRef → Mask → Ace
shown a m = record { kind = a.kind; flags = a.flags.bits; mask = m.bits; who = a.who.now }

-- the ACE at a place of the shown list is the code's ACE with the mask there
shown_at : (aces : List AceRef) (masks : List Mask) (i : ℕ) (x : AceRef) (m : Mask) → i < length masks
    → i < length (aces_with aces masks) → x ≡ slice_index_or aces i x → m ≡ slice_index_or masks i m
    → slice_index_or (aces_with aces masks) i (shown x m) ≡ shown x m
shown_at aces masks i x m within inside is of_mask =
    shown_there aces (mask_numbers masks) i (shown x m) x m.bits inside
    ∙ ap (λ (a : AceRef). record {
      kind = a.kind;
      flags = a.flags.bits;
      mask = slice_index_or (mask_numbers masks) i m.bits;
      who = a.who.now;
    }) (sym is)
    ∙ ap (λ (n : ℕ). record { kind = x.kind; flags = x.flags.bits; mask = n; who = x.who.now })
    (bits_at masks i m.bits m within of_mask)

-- an ACE and a mask of the code at one place, and the list that the code shows there
pub record IsShown (aces : List AceRef) (masks : List Mask) (i : ℕ) (x : AceRef) (m : Mask) : Type 0 where
  pub within : i < length (aces_with aces masks)
  pub item : slice_index_or (aces_with aces masks) i (shown x m) ≡ shown x m
  pub mask : mask_here (aces_with aces masks) i ≡ m.bits

-- what the code reads at a place is what the shown list has there
pub shown_here : (aces : List AceRef) (masks : List Mask) {i : ℕ} {x : AceRef} {m : Mask} → length masks ≡ length aces
    → i < length aces → x ≡ slice_index_or aces i x → m ≡ slice_index_or masks i m → IsShown aces masks i x m
shown_here aces masks {i} {x} {m} same l is of_mask =
    let within : i < length (aces_with aces masks) = omega (arith, masked_count aces masks same, l) in
    record {
      within = within;
      item = shown_at aces masks i x m (omega (arith, same, l)) within is of_mask;
      mask = mask_of aces masks i m same l of_mask;
    }

-- after the last ACE of the code the shown list has no place
pub shown_end : (aces : List AceRef) (masks : List Mask) (i : ℕ) → length masks ≡ length aces → length aces ≤ i
    → length (aces_with aces masks) ≤ i
shown_end aces masks i same end = omega (arith, masked_count aces masks same, end)

-- the cleared list of the places before the next one is accepted with the next ACE
pub next_cleared : (xs : List Ace) {i : ℕ} {e : Ace} {list : List Ace} → IsAccepted full (all_cleared (left xs))
    → i < length xs → slice_index_or xs i e ≡ e → e.mask ≢ 0 → list ≡ all_cleared (left (take i xs))
    → IsAccepted full (list ++ cleared e ∷ [])
next_cleared xs {i} {e} {list} ok l is some so =
    front_accepted full (list ++ cleared e ∷ []) (all_cleared (left (drop (i + 1) xs)))
    (subst (IsAccepted full) (whole ∙ sym (moved list (all_cleared (left (drop (i + 1) xs))) (cleared e))) ok)
  where
    full_here : left (e ∷ drop (i + 1) xs) ≡ e ∷ left (drop (i + 1) xs)
    full_here = rw (ne_eqb e.mask 0 some) refl

    whole : all_cleared (left xs) ≡ list ++ cleared e ∷ all_cleared (left (drop (i + 1) xs))
    whole =
        ap (λ v. all_cleared (left v)) (split_there xs i e l)
        ∙ ap (λ v. all_cleared (left (take i xs ++ v ∷ drop (i + 1) xs))) is
        ∙ ap all_cleared (left_append (take i xs) (e ∷ drop (i + 1) xs))
        ∙ ap (λ v. all_cleared (left (take i xs) ++ v)) full_here
        ∙ map-append cleared (left (take i xs)) (e ∷ left (drop (i + 1) xs))
        ∙ ap (λ v. v ++ cleared e ∷ all_cleared (left (drop (i + 1) xs))) (sym so)

-- with the next ACE, the cleared list is that of one place more
pub cleared_more : (xs : List Ace) {i : ℕ} {e : Ace} {list new : List Ace} → i < length xs
    → slice_index_or xs i e ≡ e → e.mask ≢ 0 → list ≡ all_cleared (left (take i xs)) → new ≡ list ++ cleared e ∷ []
    → new ≡ all_cleared (left (take (i + 1) xs))
cleared_more xs {i} {e} l is some so more =
    more ∙ ap (λ v. v ++ cleared e ∷ []) so
    ∙ sym (map-append cleared (left (take i xs)) (e ∷ []))
    ∙ ap (λ v. all_cleared (left (take i xs) ++ v)) (sym (one_left e some))
    ∙ sym (ap all_cleared (left_append (take i xs) (e ∷ [])))
    ∙ ap (λ v. all_cleared (left (take i xs ++ v ∷ []))) (sym is)
    ∙ sym (ap (λ v. all_cleared (left v)) (take_more xs i e l))

-- a place with an empty mask adds nothing to what is left
past_left : (xs : List Ace) (i : ℕ) → i < length xs → mask_here xs i ≡ 0 → left (take (suc i) xs) ≡ left (take i xs)
past_left [] i l none = absurd (omega (arith, l))
past_left (a ∷ xs) zero l none = none_left a none
past_left (a ∷ xs) (suc i) l none = go (a.mask == 0) refl (past_left xs i (omega (arith, l)) none)
  where
    go : (t : Bool) → (a.mask == 0) ≡ t → left (take (suc i) xs) ≡ left (take i xs)
        → left (a ∷ take (suc i) xs) ≡ left (a ∷ take i xs)
    go true e ih = rw e ih
    go false e ih = rw e (ap (λ v. a ∷ v) ih)

-- after a place with an empty mask, the cleared list is that of one place more
pub cleared_past : (xs : List Ace) {i : ℕ} {list : List Ace} → i < length xs → mask_here xs i ≡ 0
    → list ≡ all_cleared (left (take i xs)) → list ≡ all_cleared (left (take (i + 1) xs))
cleared_past xs {i} {list} l none so =
    let next : suc i ≡ i + 1 = omega arith in
    subst (λ n. list ≡ all_cleared (left (take n xs))) next (so ∙ ap all_cleared (sym (past_left xs i l none)))

-- after the last place, the cleared list is that of the whole list
pub all_places : (xs : List Ace) {i : ℕ} {list : List Ace} → length xs ≤ i → list ≡ all_cleared (left (take i xs))
    → list ≡ all_cleared (left xs)
all_places xs {i} end so = so ∙ ap (λ v. all_cleared (left v)) (take_all i xs end)

-- ---- the normal form

-- a reduced list whose keys rise is, with its flags cleared, the normal form of its source
pub rising_form_of : (list xs : List Ace) → IsReducedOf list xs → IsRising (left xs)
    → IsNormalFormOf list (all_cleared (left xs))
rising_form_of list xs reduced rising =
    let form = rising_form xs reduced.irreducible reduced.thinned.tidy.once reduced.thinned.tidy.quiet rising in
    form_of_reduced list xs (all_cleared (left xs)) reduced form.0 form.1
