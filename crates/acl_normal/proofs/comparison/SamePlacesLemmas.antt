-- Lists that name the same as another, place by place.
use Rattle.acl_normal.proofs.Common.{AceRef, AllByRecursion, ArePlacesOf, AreWhoms, Err, IfOk, IsWhom, List, Nobody, Ok, Principal, Result, Whom, [], ace, aces_in, ap, arith, cases_lt, everyone, get_or-append_seam, get_or-map, get_or_append_left, get_or_read, has_bit, inl, inr, is_among, is_mentioning, length, length-append, length-map, map, map-append, mentioned, mentioned_in, no_ace, not, principal_eq, principal_of, principals, same_answers, slice_index_or, subst, sym, takes_part, true, ℕ, ◌&&◌, ◌++◌, ◌+◌, ◌<◌, ◌∙◌, ◌∷◌, ◌≡◌, ◌≤◌, ◌⊎◌}
use Rattle.std.specs.declared.alloc.AllocError.{AllocError}
use Rattle.std.proofs.Common.{suc}
use Rattle.acl_normal.proofs.Each.{all_append, zip_append}
use Rattle.acl_normal.proofs.comparison.FirstPlaceLemmas.{whom_at, whoms_length}
use Rattle.acl_normal.proofs.comparison.MentionedPrincipals.{all_in, among_first, among_mentioned, mentioned_rising, rising_in}
use Rattle.acl_normal.proofs.comparison.MentionedRows.{mentioned_there}
use Rattle.acl_normal.proofs.comparison.Ordered.{below_one, rising_same}
use Rattle.acl_normal.specs.internal.comparison.MentionedRows.{AreMentioned, AreMentionsOf}
use Rattle.acl_normal.specs.declared.comparison.mentioned_principals.Mentions.{Mentions}
use Rattle.acl_normal.specs.internal.comparison.SamePlaces.{HasSameWho, HaveOneWho, with_copies}
use Rattle.acl_perm.specs.Bits.{inherit_only}

-- two ACEs with one who have one principal
one_principal : (a b : AceRef) → HaveOneWho a b → principal_of (ace a) ≡ principal_of (ace b)
one_principal a b h =
    ap (λ f. principal_of (record { kind = a.kind; flags = f.bits; mask = a.mask.bits; who = a.who.now })) h.flags
    ∙ ap (λ w. principal_of (record { kind = a.kind; flags = b.flags.bits; mask = a.mask.bits; who = w })) h.who

-- of two ACEs with one who, both take part or neither does
one_part : (a b : AceRef) → HaveOneWho a b → takes_part (ace a) ≡ takes_part (ace b)
one_part a b h = ap (λ f. not (has_bit f.bits inherit_only)) h.flags

-- two ACEs with one who name the same
whom_same : (whole : List Principal) (a b : AceRef) (w : Whom) → HaveOneWho a b → IsWhom whole (ace a) w
    → IsWhom whole (ace b) w
whom_same whole a b w h i =
    let p : principal_of (ace a) ≡ principal_of (ace b) = one_principal a b h in
    let t : takes_part (ace a) ≡ takes_part (ace b) = one_part a b h in
    record {
      within = i.within;
      part = sym t ∙ i.part;
      all = sym (ap (λ v. v && principal_eq (principal_of (ace a)) everyone) t
          ∙ ap (λ q. takes_part (ace b) && principal_eq q everyone) p) ∙ i.all;
      hit = λ k lt. sym (ap (λ v. v
          && is_among (principal_of (ace a)) (everyone ∷ slice_index_or whole k everyone ∷ [])) t
          ∙ ap (λ q. takes_part (ace b) && is_among q (everyone ∷ slice_index_or whole k everyone ∷ [])) p)
          ∙ i.hit k lt;
    }

-- if other ACEs have the whos at some places, the values of these places say whom they name
copies_named : (whole : List Principal) (refs : List AceRef) (ws : List Whom) → AreWhoms whole (aces_in refs) ws
    → (others : List AceRef) (places : List ℕ) → length places ≡ length others
    → ((i : ℕ) (z : AceRef) → i < length others
    → HasSameWho refs (slice_index_or others i z) (slice_index_or places i 0))
    → AreWhoms whole (aces_in others) (map (λ p. slice_index_or ws p Nobody) places)
copies_named whole refs ws all [] [] count each = tt
copies_named whole refs ws all (b ∷ others) (p ∷ places) count each =
    let here : HasSameWho refs b p = each 0 b (omega arith) in (
      whom_same whole (slice_index_or refs p b) b (slice_index_or ws p Nobody) here.same
          (subst (λ v. IsWhom whole v (slice_index_or ws p Nobody)) (get_or-map ace refs p b no_ace here.within)
          (whom_at whole (aces_in refs) ws p (omega (arith, here.within, length-map refs ace)) all)),
      copies_named whole refs ws all others places (omega (arith, count))
          (λ i z lt. each (suc i) z (omega (arith, lt))),
    )
copies_named whole refs ws all [] (p ∷ places) count each = absurd (omega (arith, count))
copies_named whole refs ws all (b ∷ others) [] count each = absurd (omega (arith, count))

-- the values with the copies for the other list say whom the ACEs of both lists name
pub both_named : (whole : List Principal) (refs others : List AceRef) (ws new : List Whom) (places : List ℕ)
    → AreWhoms whole (aces_in refs) ws → ArePlacesOf refs others (length others) places
    → new ≡ with_copies ws places
    → AreWhoms whole (aces_in refs ++ aces_in others) new
both_named whole refs others ws new places all h is =
    subst (AreWhoms whole (aces_in refs ++ aces_in others)) (sym is)
    (zip_append (IsWhom whole) (aces_in refs) (aces_in others) ws (map (λ p. slice_index_or ws p Nobody) places) all
    (copies_named whole refs ws all others places h.count h.each))

-- a list mentions the principals of ACEs that have its whos
others_among : (refs others : List AceRef) (places : List ℕ) → length places ≡ length others
    → ((i : ℕ) (z : AceRef) → i < length others
    → HasSameWho refs (slice_index_or others i z) (slice_index_or places i 0))
    → AllByRecursion (λ a. is_mentioning a ≡ true → is_among (principal_of a) (mentioned_in (aces_in refs)) ≡ true)
    (aces_in others)
others_among refs [] [] count each = tt
others_among refs (b ∷ others) (p ∷ places) count each = (
  here (each 0 b (omega arith)),
  others_among refs others places (omega (arith, count)) (λ i z lt. each (suc i) z (omega (arith, lt))),
)
  where
    here : HasSameWho refs b p → is_mentioning (ace b) ≡ true
        → is_among (principal_of (ace b)) (mentioned_in (aces_in refs)) ≡ true
    here h m =
        let a : AceRef = slice_index_or refs p b in
        let is : slice_index_or (aces_in refs) p no_ace ≡ ace a = get_or-map ace refs p b no_ace h.within in
        let own : principal_of (ace a) ≡ principal_of (ace b) = one_principal a b h.same in
        let same : is_mentioning (ace a) ≡ is_mentioning (ace b) =
        ap (λ v. v && not (principal_eq (principal_of (ace a)) everyone)) (one_part a b h.same)
        ∙ ap (λ q. takes_part (ace b) && not (principal_eq q everyone)) own in
        subst (λ q. is_among q (mentioned_in (aces_in refs)) ≡ true) (ap principal_of is ∙ own)
        (mentioned_there (aces_in refs) p (omega (arith, h.within, length-map refs ace))
        (ap is_mentioning is ∙ same ∙ m))
others_among refs [] (p ∷ places) count each = absurd (omega (arith, count))
others_among refs (b ∷ others) [] count each = absurd (omega (arith, count))

-- if the ACEs of a second list have whos of the first, both lists mention the principals of the first
pub first_mentions : (refs others : List AceRef) (places : List ℕ) → ArePlacesOf refs others (length others) places
    → mentioned_in (aces_in refs) ≡ mentioned (aces_in refs) (aces_in others)
first_mentions refs others places h =
    let own : List Principal = mentioned_in (aces_in refs) in
    let both : List Principal = mentioned (aces_in refs) (aces_in others) in
    rising_same own both (rising_in (aces_in refs)) (mentioned_rising (aces_in refs) (aces_in others))
    (λ s. same_answers (is_among s own) (is_among s both)
    (λ i. below_one (λ p. is_among p both ≡ true) own s
    (all_in (λ p. is_among p both ≡ true) (aces_in refs) (among_first (aces_in refs) (aces_in others))) i)
    (λ i. below_one (λ p. is_among p own ≡ true) both s
    (all_in (λ p. is_among p own ≡ true) (aces_in refs ++ aces_in others)
    (all_append (λ a. is_mentioning a ≡ true → is_among (principal_of a) own ≡ true) (aces_in refs) (aces_in others)
    (among_mentioned (aces_in refs)) (others_among refs others places h.count h.each))) i))

-- before the first ACE there are no places
pub places_start : (refs others : List AceRef) (places : List ℕ) → places ≡ [] → ArePlacesOf refs others 0 places
places_start refs others places is = record {
  count = ap length is;
  within = λ j l. absurd (omega (arith, l));
  each = λ j z l. absurd (omega (arith, l));
}

-- with the place of the next ACE, the places are those of the ACEs up to it
pub places_more : (refs others : List AceRef) (x : AceRef) (places new : List ℕ) (i p : ℕ) → i < length others
    → x ≡ slice_index_or others i x → HasSameWho refs x p → new ≡ places ++ p ∷ []
    → ArePlacesOf refs others i places → ArePlacesOf refs others (i + 1) new
places_more refs others x places new i p lt at h is inv = record {
  count = ap length is ∙ length-append places (p ∷ []) ∙ omega (arith, inv.count);
  within = λ j l. (found j x l).within;
  each = λ j z l. found j z l;
}
  where
    here : (j : ℕ) (z : AceRef) → j < i + 1 → (j < i) ⊎ (i ≤ j)
        → HasSameWho refs (slice_index_or others j z) (slice_index_or (places ++ p ∷ []) j 0)
    here j z l (inl less) = subst (HasSameWho refs (slice_index_or others j z))
        (sym (get_or_append_left places (p ∷ []) 0 j (omega (arith, inv.count, less)))) (inv.each j z less)
    here j z l (inr past) =
        let last : j ≡ i = omega arith in
        let value : slice_index_or (places ++ p ∷ []) j 0 ≡ p =
        ap (λ v. slice_index_or (places ++ p ∷ []) v 0) (last ∙ sym inv.count) ∙ get_or-append_seam places p [] 0 in
        let own : x ≡ slice_index_or others j z =
        get_or_read others i x lt at z ∙ ap (λ v. slice_index_or others v z) (sym last) in
        subst (HasSameWho refs (slice_index_or others j z)) (sym value) (subst (λ v. HasSameWho refs v p) own h)

    found : (j : ℕ) (z : AceRef) → j < i + 1
        → HasSameWho refs (slice_index_or others j z) (slice_index_or new j 0)
    found j z l = subst (HasSameWho refs (slice_index_or others j z)) (sym (ap (λ v. slice_index_or v j 0) is))
        (here j z l (cases_lt j i))

-- with the copies there are at least as many values as before
pub copies_long : (ws : List Whom) {now : List Whom} (places : List ℕ) → now ≡ with_copies ws places
    → length ws ≤ length now
copies_long ws {now} places is =
    omega (arith, ap length is, length-append ws (map (λ q. slice_index_or ws q Nobody) places))

-- each place that is copied is the place of one of the values
pub copies_there : (whole : List Principal) (refs others : List AceRef) (ws : List Whom) (places shown : List ℕ) (n : ℕ)
    → ArePlacesOf refs others (length others) places → shown ≡ places → AreWhoms whole (aces_in refs) ws
    → n ≡ length ws → (i : ℕ) → i < length shown → slice_index_or shown i 0 < n
copies_there whole refs others ws places shown n h is all e i lt =
    let at = h.within i (omega (arith, lt, ap length is, h.count)) in
    omega (arith, ap (λ v. slice_index_or v i 0) is, at, whoms_length whole refs ws all, e)

-- the principals that two lists together mention are those that the two lists mention
pub joined_mentions : (list other : List AceRef) {aces shown : List AceRef} (r : Result Mentions AllocError)
    → shown ≡ aces
    → aces ≡ list ++ other → IfOk r (AreMentionsOf (aces_in shown))
    → IfOk r (AreMentioned (aces_in list) (aces_in other))
joined_mentions list other {aces} {shown} (Ok m) se ae h =
    let both : aces_in shown ≡ aces_in list ++ aces_in other =
    ap aces_in (se ∙ ae) ∙ map-append ace list other in
    record {
      in_order = h.in_order ∙ ap mentioned_in both;
      whoms = subst (λ v. AreWhoms (principals m.principals.items) v m.whoms.items) both h.whoms;
    }
joined_mentions list other {aces} {shown} (Err e) se ae h = h
