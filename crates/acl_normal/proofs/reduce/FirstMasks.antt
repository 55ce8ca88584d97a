-- The masks of the first ACEs of a list, place by place.
use Rattle.acl_normal.proofs.Common.{aces_with, Ace, AceRef, AreRowNumbers, Bool, IsAccepted, IsDifference, IsOnce, IsQuiet, IsTidy, KeepsFirsts, Kind, List, Mask, None, Option, Principal, Some, [], ace, ace_key, aces_in, add-one, ap, append-nil, arith, bit_or, column, counts, everyone, false, first_at, first_kind, full, get_or-replicate, get_or-set_other, get_or-set_same, has_bit, has_bit-or, is_either, is_inherit_only, is_none, is_principal_of, is_some, length, length-append, length-replicate, length-set, length-take-le, mask_numbers, nothing_left, principal_eq, principal_of, refl, replicate, row_of, slice_index_or, slice_set, subst, suc, sym, take, take_all, take_more, true, unshadowed, with_masks, ℕ, ◌&&◌, ◌++◌, ◌+◌, ◌<◌, ◌||◌, ◌∙◌, ◌∷◌, ◌≡◌, ◌≤◌}
use Rattle.acl_normal.specs.internal.Reduced.{IsThinned}
use Rattle.acl_normal.proofs.unique.Accepted.{accepted_masks}
use Rattle.acl_normal.proofs.unique.Bits.{no_bits, no_bits_of_zero, no_right}
use Rattle.acl_normal.proofs.unique.FirstKind.{none_within}
use Rattle.acl_normal.proofs.reduce.FirstRows.{column_more, column_push, first_behind, first_front, first_there, none_from, none_is, some_either, some_push, unshadowed_push}
use Rattle.acl_normal.proofs.rows.ByPlace.{index_is, key_at_index, length_of, masked, masks_none, masks_push}
use Rattle.acl_normal.proofs.unique.Names.{either_first, either_second, either_within, principal_eq_itself, principal_eq_same}
use Rattle.acl_normal.proofs.unique.Outline.{length_alike, nothing_append}
use Rattle.acl_normal.proofs.reduce.Reducing.{no_column}
use Rattle.acl_normal.proofs.rows.Rows.{named_here, row_below, row_same}
use Rattle.acl_normal.proofs.rows.MaskNumbers.{bits_at, bits_length, bits_push, bits_set}
use Rattle.acl_normal.proofs.reduce.Unshadowed.{same_unshadowed, unshadowed_once}
use Rattle.acl_normal.proofs.rows.FirstAces.{absent_first}

-- ---- the list, place by place

-- what the loop keeps: the first ACEs of the places that are done
pub record FirstsTo (whole : List Ace) (n : ℕ) (xs : List Ace) : Type 0 where
  pub outline : nothing_left xs ≡ nothing_left (take n whole)
  pub columns : (b : ℕ) → column xs b ≡ unshadowed [] (column (take n whole) b)
  pub quiet : IsQuiet xs
  pub firsts : KeepsFirsts whole xs

-- what the loop has at the end: the first ACEs of the whole list
pub record FirstsAre (whole xs : List Ace) : Type 0 where
  pub outline : nothing_left xs ≡ nothing_left whole
  pub columns : (b : ℕ) → column xs b ≡ unshadowed [] (column whole b)

-- before the first place no ACE is there
pub firsts_to_start : (whole : List Ace) → FirstsTo whole 0 []
firsts_to_start whole = record {
  outline = refl;
  columns = λ b. refl;
  quiet = tt;
  firsts = λ b p k i h. cc;
}

-- the mask has the bits with which the ACE takes part and that no ACE before has for its principal or for everyone
abbrev pub IsFresh : List Ace → Ace → ℕ → Type 0
IsFresh xs a m = (b : ℕ)
    → has_bit m b ≡ (counts b a && is_none (first_kind (is_either (principal_of a) everyone) (column xs b)))

-- an ACE takes part with all of its fresh bits
fresh_counts : (xs : List Ace) (a : Ace) (m b : ℕ) → IsFresh xs a m → counts b (masked a m) ≡ has_bit m b
fresh_counts xs a m b f = grind (arith, f b)

-- a quiet list with one ACE more, which takes part or has no bit, is quiet
quiet_push : (xs : List Ace) (a : Ace) → IsQuiet xs → (is_inherit_only a ≡ true → a.mask ≡ 0)
    → IsQuiet (xs ++ a ∷ [])
quiet_push [] a q h = (h, tt)
quiet_push (x ∷ xs) a q h = (q.0, quiet_push xs a q.1 h)

-- the ACEs before a place lack a principal at a bit, if the next ACE has it and the bit is fresh
fresh_absent : (whole : List Ace) (n : ℕ) (xs : List Ace) (a : Ace) (b : ℕ) (p : Principal) → FirstsTo whole n xs
    → principal_eq (principal_of a) p ≡ true
    → is_none (first_kind (is_either (principal_of a) everyone) (column xs b)) ≡ true
    → first_at b p (take n whole) ≡ None
fresh_absent whole n xs a b p f e z =
    subst (λ v. first_at b v (take n whole) ≡ None) (principal_eq_same (principal_of a) p e)
    (absent_first b (principal_of a) (take n whole)
    (none_within (is_either (principal_of a) everyone) (is_either (principal_of a) (principal_of a))
    (column (take n whole) b) either
    (either_within (is_either (principal_of a) everyone) (principal_of a) (principal_of a)
    (either_first (principal_of a) everyone) (either_first (principal_of a) everyone))))
  where
    either : first_kind (is_either (principal_of a) everyone) (column (take n whole) b) ≡ None
    either =
        sym (same_unshadowed (is_either (principal_of a) everyone) [] (column (take n whole) b)
        (either_second (principal_of a) everyone) refl)
        ∙ ap (first_kind (is_either (principal_of a) everyone)) (sym (f.columns b)) ∙ none_from _ z

-- with the fresh bits of the next ACE, the columns are those of one place more
fresh_columns : (whole : List Ace) (n : ℕ) (xs : List Ace) (a : Ace) (m : ℕ) → FirstsTo whole n xs
    → n < length whole → slice_index_or whole n a ≡ a → IsFresh xs a m → (b : ℕ)
    → column (xs ++ masked a m ∷ []) b ≡ unshadowed [] (column (take (suc n) whole) b)
fresh_columns whole n xs a m f l is fresh b =
    rw (column_push b xs (masked a m), column_more b n whole a l is)
    (grind (
      arith,
      fresh_counts xs a m b fresh,
      fresh b,
      f.columns b,
      unshadowed_push (column (take n whole) b) (ace_key a),
      append-nil (column xs b),
      append-nil (column (take n whole) b),
    ))

-- with the fresh bits of the next ACE, the first ACEs are those of one place more
pub firsts_to_more : (whole : List Ace) (n : ℕ) {xs : List Ace} {a : Ace} (m : ℕ) → FirstsTo whole n xs
    → n < length whole → slice_index_or whole n a ≡ a → IsFresh xs a m
    → FirstsTo whole (suc n) (xs ++ masked a m ∷ [])
firsts_to_more whole n {xs} {a} m f l is fresh = record {
  outline =
      nothing_append xs (masked a m ∷ []) ∙ ap (λ v. v ++ record a { mask = 0 } ∷ []) f.outline
      ∙ sym (nothing_append (take n whole) (a ∷ [])) ∙ ap nothing_left (sym more);
  columns = fresh_columns whole n xs a m f l is fresh;
  quiet = quiet_push xs (masked a m) f.quiet (λ e. no_bits m (λ b. grind (arith, fresh b, e)));
  firsts = λ b p k i h. firsts b p k i h (first_at b p xs) refl;
}
  where
    more : take (suc n) whole ≡ take n whole ++ a ∷ []
    more = ap (λ v. take v whole) (sym (add-one n)) ∙ take_more whole n a l ∙ ap (λ v. take n whole ++ v ∷ []) is

    count : length xs ≡ n
    count = length_alike xs (take n whole) f.outline ∙ length-take-le n whole (omega (arith, l))

    firsts : (b : ℕ) (p : Principal) (k : Kind) (i : ℕ) → first_at b p (xs ++ masked a m ∷ []) ≡ Some (k, i)
        → (o : Option (Kind × ℕ)) → first_at b p xs ≡ o → first_at b p whole ≡ Some (k, i)
    firsts b p k i h (Some d) e =
        f.firsts b p k i (e ∙ sym (first_front b p xs (masked a m ∷ []) d e) ∙ h)
    firsts b p k i h None e =
        grind (
          arith,
          first_behind b p xs (masked a m) e,
          fresh_counts xs a m b fresh,
          fresh b,
          count,
          fresh_absent whole n xs a b p f,
          first_there b p n whole a l is,
        )

-- after the last place the first ACEs are those of the whole list
pub firsts_to_all : (whole : List Ace) (n : ℕ) (xs : List Ace) → FirstsTo whole n xs → length whole ≤ n
    → FirstsAre whole xs
firsts_to_all whole n xs f l = record {
  outline = f.outline ∙ ap nothing_left (take_all n whole l);
  columns = λ b. f.columns b ∙ ap (λ v. unshadowed [] (column v b)) (take_all n whole l);
}

-- first ACEs of an accepted list are tidy
pub firsts_tidy : (whole xs : List Ace) → IsAccepted full whole → IsQuiet xs
    → ((b : ℕ) → column xs b ≡ unshadowed [] (column whole b)) → IsTidy xs
firsts_tidy whole xs accepted quiet columns = record {
  once = λ b. subst IsOnce (sym (columns b)) (unshadowed_once (column whole b));
  quiet = quiet;
  low = λ b h. columns b ∙ ap (unshadowed []) (no_column b whole (accepted_masks whole accepted) (no_right b h));
}

-- ---- which bits are seen

-- what the loop knows: the bits that each row has had, and those that everyone has had
pub record HoldsSeen (whole : List Ace) (seen : List ℕ) (all : ℕ) (xs : List Ace) : Type 0 where
  pub count : length seen ≡ length whole
  pub rows : (p : Principal) → is_principal_of p whole ≡ true → (b : ℕ)
      → has_bit (slice_index_or seen (row_of p whole) 0) b ≡ is_some (first_kind (is_either p p) (column xs b))
  pub everyone : (b : ℕ) → has_bit all b ≡ is_some (first_kind (is_either everyone everyone) (column xs b))

-- before the first place no row has had a bit
pub seen_start : (whole : List Ace) (seen : List ℕ) → seen ≡ replicate (length whole) 0 → HoldsSeen whole seen 0 []
seen_start whole seen is = record {
  count = ap length is ∙ length-replicate (length whole) 0;
  rows =
      λ p h b. ap (λ v. has_bit (slice_index_or v (row_of p whole) 0) b) is
      ∙ ap (λ v. has_bit v b) (get_or-replicate (length whole) (row_of p whole) 0 0 (row_below p whole h))
      ∙ no_bits_of_zero b;
  everyone = λ b. no_bits_of_zero b;
}

-- the fresh bits of an ACE are those with which it takes part and that neither its row nor everyone has had
pub fresh_is : (whole : List Ace) (seen : List ℕ) (all : ℕ) (xs : List Ace) (a : Ace) (active m : ℕ)
    → HoldsSeen whole seen all xs → is_principal_of (principal_of a) whole ≡ true
    → ((b : ℕ) → has_bit active b ≡ counts b a)
    → IsDifference active (bit_or (slice_index_or seen (row_of (principal_of a) whole) 0) all) m → IsFresh xs a m
fresh_is whole seen all xs a active m s named act is b =
    grind (
      arith,
      is b,
      act b,
      has_bit-or (slice_index_or seen (row_of (principal_of a) whole) 0) all b,
      s.rows (principal_of a) named b,
      s.everyone b,
      some_either (principal_of a) everyone (column xs b),
      none_is (first_kind (is_either (principal_of a) everyone) (column xs b)),
    )

-- with the fresh bits of one ACE more, its principal has had these too
some_fresh : (xs : List Ace) (a : Ace) (m : ℕ) → IsFresh xs a m → (b : ℕ) (p : Principal)
    → is_some (first_kind (is_either p p) (column (xs ++ masked a m ∷ []) b))
    ≡ (is_some (first_kind (is_either p p) (column xs b)) || (has_bit m b && principal_eq (principal_of a) p))
some_fresh xs a m fresh b p =
    rw (column_push b xs (masked a m))
    (grind (
      arith,
      some_push (is_either p p) (column xs b) (ace_key a) (counts b (masked a m)),
      fresh_counts xs a m b fresh,
    ))

-- two principals of a list have different rows
rows_apart : (whole : List Ace) (p q : Principal) → is_principal_of p whole ≡ true → is_principal_of q whole ≡ true
    → principal_eq q p ≡ false → row_of p whole ≡ row_of q whole → ⊥
rows_apart whole p q h named e g =
    let same : p ≡ q = row_same p q whole h named g in
    let one : principal_eq q p ≡ true = ap (principal_eq q) same ∙ principal_eq_itself q in
    cc

-- with the fresh bits of one ACE more, the bits that its row has had are known again
pub seen_more : (whole : List Ace) (seen : List ℕ) (all all' : ℕ) {xs : List Ace} (a : Ace) (m : ℕ)
    → HoldsSeen whole seen all xs → is_principal_of (principal_of a) whole ≡ true → IsFresh xs a m
    → ((b : ℕ) → has_bit all' b ≡ (has_bit all b || (has_bit m b && principal_eq (principal_of a) everyone)))
    → HoldsSeen whole (slice_set seen (row_of (principal_of a) whole)
    (bit_or (slice_index_or seen (row_of (principal_of a) whole) 0) m)) all' (xs ++ masked a m ∷ [])
seen_more whole seen all all' {xs} a m s named fresh is = record {
  count = length-set seen row new ∙ s.count;
  rows = λ p h b. rows p h b (principal_eq (principal_of a) p) refl;
  everyone = λ b. grind (arith, is b, s.everyone b, some_fresh xs a m fresh b everyone);
}
  where
    row : ℕ
    row = row_of (principal_of a) whole

    new : ℕ
    new = bit_or (slice_index_or seen row 0) m

    rows : (p : Principal) → is_principal_of p whole ≡ true → (b : ℕ) → (t : Bool) → principal_eq (principal_of a) p ≡ t
        → has_bit (slice_index_or (slice_set seen row new) (row_of p whole) 0) b
        ≡ is_some (first_kind (is_either p p) (column (xs ++ masked a m ∷ []) b))
    rows p h b true e =
        let same : principal_of a ≡ p = principal_eq_same (principal_of a) p e in
        let within : row < length seen = omega (arith, row_below (principal_of a) whole named, s.count) in
        ap (λ v. has_bit (slice_index_or (slice_set seen row new) (row_of v whole) 0) b) (sym same)
        ∙ ap (λ v. has_bit v b) (get_or-set_same seen row new 0 within)
        ∙ grind (
          arith,
          has_bit-or (slice_index_or seen row 0) m b,
          s.rows (principal_of a) named b,
          same,
          some_fresh xs a m fresh b p,
        )
    rows p h b false e =
        let apart : row_of p whole ≡ row → ⊥ = rows_apart whole p (principal_of a) h named e in
        ap (λ v. has_bit v b) (get_or-set_other seen row (row_of p whole) new 0 apart)
        ∙ grind (arith, s.rows p h b, some_fresh xs a m fresh b p)

-- ---- rows by place

-- the row of a place is that of the principal of the ACE there
pub row_here : (whole : List Ace) (rows : List ℕ) (i : ℕ) (a : Ace) → AreRowNumbers whole rows → i < length whole
    → slice_index_or whole i a ≡ a → slice_index_or rows i 0 ≡ row_of (principal_of a) whole
row_here whole rows i a r l is =
    r.at i l ∙ ap (λ k. row_of k.0 whole) (key_at_index whole i a l ∙ ap ace_key is)

-- a list names the principal of the ACE at a place
pub named_there : (whole : List Ace) (i : ℕ) (a : Ace) → i < length whole → slice_index_or whole i a ≡ a
    → is_principal_of (principal_of a) whole ≡ true
named_there whole i a l is =
    ap (λ k. is_principal_of k.0 whole) (sym (key_at_index whole i a l ∙ ap ace_key is)) ∙ named_here whole i l

-- the row of a place is one of the rows whose bits are known
pub row_seen : (aces : List AceRef) (rows : List ℕ) (seen : List Mask) {place all : ℕ} {xs : List Ace} {x : AceRef}
    → AreRowNumbers (aces_in aces) rows → place < length aces → x ≡ slice_index_or aces place x
    → HoldsSeen (aces_in aces) (mask_numbers seen) all xs → slice_index_or rows place 0 < length seen
row_seen aces rows seen {place} {all} {xs} {x} r l is holds =
    let within : place < length (aces_in aces) = omega (arith, length_of aces, l) in
    let at = index_is aces place x l is in
    omega (
      arith,
      row_here (aces_in aces) rows place (ace x) r within at,
      row_below (principal_of (ace x)) (aces_in aces) (named_there (aces_in aces) place (ace x) within at),
      holds.count,
      bits_length seen,
    )

-- ---- the loop

-- what the loop keeps: the masks of the places that are done, and the bits that were seen in them
pub record Reaches (aces : List AceRef) (place : ℕ) (masks seen : List ℕ) (all : ℕ) : Type 0 where
  pub count : length masks ≡ place
  pub firsts : FirstsTo (aces_in aces) place (with_masks aces masks)
  pub holds : HoldsSeen (aces_in aces) seen all (with_masks aces masks)

-- before the first place there is no mask, and no bit was seen
pub reaches_none : (aces : List AceRef) (masks seen : List ℕ) → masks ≡ [] → seen ≡ replicate (length aces) 0
    → Reaches aces 0 masks seen 0
reaches_none aces masks seen no_mask zeros = record {
  count = ap length no_mask;
  firsts = subst (FirstsTo (aces_in aces) 0) (sym none) (firsts_to_start (aces_in aces));
  holds =
      subst (HoldsSeen (aces_in aces) seen 0) (sym none)
      (seen_start (aces_in aces) seen (zeros ∙ ap (λ n. replicate n 0) (sym (length_of aces))));
}
  where
    none : with_masks aces masks ≡ []
    none = ap (with_masks aces) no_mask ∙ masks_none aces

-- the ACE at the next place, what its row has had before and after it, and its fresh bits
pub record IsNext (aces : List AceRef) (rows : List ℕ) (place : ℕ) (seen : List Mask) (all : ℕ) (x : AceRef)
    (here both fresh : Mask) : Type 0 where
  pub numbers : AreRowNumbers (aces_in aces) rows
  pub below : place < length aces
  pub is : x ≡ slice_index_or aces place x
  pub in_row : here ≡ slice_index_or seen (slice_index_or rows place 0) here
  pub active : ℕ
  pub takes_part : (b : ℕ) → has_bit active b ≡ counts b (ace x)
  pub new : IsDifference active (bit_or here.bits all) fresh.bits
  pub together : both.bits ≡ bit_or here.bits fresh.bits

-- the row of the next place is that of the principal that its ACE names
next_row : {aces : List AceRef} {rows : List ℕ} {place : ℕ} {seen : List Mask} {all : ℕ} {x : AceRef}
    {here both fresh : Mask} → IsNext aces rows place seen all x here both fresh
    → slice_index_or rows place 0 ≡ row_of (principal_of (ace x)) (aces_in aces)
next_row {aces} {rows} {place} {seen} {all} {x} next =
    row_here (aces_in aces) rows place (ace x) next.numbers (omega (arith, length_of aces, next.below))
    (index_is aces place x next.below next.is)

-- what the row of the next ACE has had is what is known of the row
row_had : {aces : List AceRef} {rows : List ℕ} {place : ℕ} {seen : List Mask} {all : ℕ} {x : AceRef}
    {here both fresh : Mask} {xs : List Ace} → IsNext aces rows place seen all x here both fresh
    → HoldsSeen (aces_in aces) (mask_numbers seen) all xs
    → here.bits ≡ slice_index_or (mask_numbers seen) (row_of (principal_of (ace x)) (aces_in aces)) 0
row_had {aces} {rows} {place} {seen} {all} {x} {here} next holds =
    sym (bits_at seen (slice_index_or rows place 0) 0 here
    (row_seen aces rows seen next.numbers next.below next.is holds) next.in_row)
    ∙ ap (λ n. slice_index_or (mask_numbers seen) n 0) (next_row next)

-- with the fresh bits of the next ACE, what is known of its row has these bits too
row_written : {aces : List AceRef} {rows : List ℕ} {place : ℕ} {seen : List Mask} {all : ℕ} {x : AceRef}
    {here both fresh : Mask} {xs : List Ace} → IsNext aces rows place seen all x here both fresh
    → HoldsSeen (aces_in aces) (mask_numbers seen) all xs
    → mask_numbers (slice_set seen (slice_index_or rows place 0) both)
    ≡ slice_set (mask_numbers seen) (row_of (principal_of (ace x)) (aces_in aces))
    (bit_or (slice_index_or (mask_numbers seen) (row_of (principal_of (ace x)) (aces_in aces)) 0) fresh.bits)
row_written {aces} {rows} {place} {seen} {all} {x} {here} {both} {fresh} next holds =
    bits_set seen (slice_index_or rows place 0) both
    ∙ ap (λ n. slice_set (mask_numbers seen) n both.bits) (next_row next)
    ∙ ap (slice_set (mask_numbers seen) (row_of (principal_of (ace x)) (aces_in aces)))
    (next.together ∙ ap (λ v. bit_or v fresh.bits) (row_had next holds))

-- with a mask for the next ACE, the list that was made so far has this ACE too
shown_push : (aces : List AceRef) (masks : List Mask) (place : ℕ) (x : AceRef) (fresh : Mask)
    → length (mask_numbers masks) ≡ place → place < length aces → x ≡ slice_index_or aces place x
    → aces_with aces (masks ++ fresh ∷ []) ≡ aces_with aces masks ++ masked (ace x) fresh.bits ∷ []
shown_push aces masks place x fresh count below is =
    ap (with_masks aces) (bits_push masks fresh)
    ∙ masks_push aces (mask_numbers masks) x fresh.bits (omega (arith, count, below))
    (is ∙ ap (λ n. slice_index_or aces n x) (sym count))

-- with the fresh bits of the next ACE, one place more is done
pub reaches_more : (aces : List AceRef) (rows : List ℕ) (place : ℕ) (masks seen : List Mask) (all all' : ℕ) (x : AceRef)
    (here both fresh : Mask) → Reaches aces place (mask_numbers masks) (mask_numbers seen) all
    → IsNext aces rows place seen all x here both fresh
    → ((b : ℕ) → has_bit all' b
    ≡ (has_bit all b || (has_bit fresh.bits b && principal_eq (principal_of (ace x)) everyone)))
    → Reaches aces (place + 1) (mask_numbers (masks ++ fresh ∷ []))
    (mask_numbers (slice_set seen (slice_index_or rows place 0) both)) all'
reaches_more aces rows place masks seen all all' x here both fresh r next of_all = record {
  count = ap length (bits_push masks fresh) ∙ length-append (mask_numbers masks) (fresh.bits ∷ [])
      ∙ ap (λ n. n + 1) r.count;
  firsts =
      subst (FirstsTo whole (place + 1)) (sym shown)
      (subst (λ n. FirstsTo whole n (aces_with aces masks ++ masked (ace x) fresh.bits ∷ [])) (sym (add-one place))
      (firsts_to_more whole place fresh.bits r.firsts within is new));
  holds =
      subst (HoldsSeen whole _ all') (sym shown)
      (subst (λ v. HoldsSeen whole v all' (aces_with aces masks ++ masked (ace x) fresh.bits ∷ []))
      (sym (row_written next r.holds))
      (seen_more whole (mask_numbers seen) all all' (ace x) fresh.bits r.holds named new of_all));
}
  where
    whole : List Ace
    whole = aces_in aces

    within : place < length whole
    within = omega (arith, length_of aces, next.below)

    is : slice_index_or whole place (ace x) ≡ ace x
    is = index_is aces place x next.below next.is

    named : is_principal_of (principal_of (ace x)) whole ≡ true
    named = named_there whole place (ace x) within is

    new : IsFresh (aces_with aces masks) (ace x) fresh.bits
    new =
        fresh_is whole (mask_numbers seen) all (aces_with aces masks) (ace x) next.active fresh.bits r.holds named
        next.takes_part
        (subst (λ v. IsDifference next.active (bit_or v all) fresh.bits) (row_had next r.holds) next.new)

    shown : aces_with aces (masks ++ fresh ∷ []) ≡ aces_with aces masks ++ masked (ace x) fresh.bits ∷ []
    shown = shown_push aces masks place x fresh r.count next.below next.is

-- after the last place the masks are those of the first ACEs
pub reaches_all : (aces : List AceRef) (place : ℕ) (masks seen : List ℕ) (all : ℕ)
    → Reaches aces place masks seen all → length aces ≤ place → FirstsAre (aces_in aces) (with_masks aces masks)
reaches_all aces place masks seen all r past =
    firsts_to_all (aces_in aces) place _ r.firsts (omega (arith, length_of aces, past))

-- after the last place the ACEs with these masks are the list with fewer bits
pub reaches_thinned : (aces : List AceRef) (place : ℕ) {masks seen : List ℕ} {all : ℕ} → IsAccepted full (aces_in aces)
    → Reaches aces place masks seen all → length aces ≤ place → IsThinned (aces_in aces) (with_masks aces masks)
reaches_thinned aces place {masks} {seen} {all} accepted r past =
    let are = reaches_all aces place masks seen all r past in
    record {
      outline = are.outline;
      tidy = firsts_tidy (aces_in aces) _ accepted r.firsts.quiet are.columns;
      firsts = r.firsts.firsts;
    }
