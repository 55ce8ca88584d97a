-- ACEs of the code and their masks, by place.
use Rattle.acl_normal.proofs.Common.{Ace, ace, AceRef, ace_key, is_inherit_only, IsQuiet, key_here, mask_here, aces_in, with_masks, arith, subst, sym, [], length, List, refl, slice_index_or, suc, true, zero, ℕ, ◌∙◌, ◌++◌, ◌<◌, ◌∷◌, ◌≡◌, ap, everyone, principal_of, ◌≤◌}

-- as many ACEs are shown as there are
pub length_of : (aces : List AceRef) → length (aces_in aces) ≡ length aces
length_of [] = refl
length_of (x ∷ aces) = ap suc (length_of aces)

-- the ACE at a place of the shown list is the code's ACE there
pub index_of : (aces : List AceRef) (i : ℕ) (d : AceRef) → i < length aces
    → slice_index_or (aces_in aces) i (ace (slice_index_or aces i d)) ≡ ace (slice_index_or aces i d)
index_of [] i d h = absurd (omega (arith, h))
index_of (x ∷ aces) zero d h = refl
index_of (x ∷ aces) (suc i) d h = index_of aces i d (omega (arith, h))

-- the ACE that indexing gives is the one at its place
pub index_is : (aces : List AceRef) (i : ℕ) (x : AceRef) → i < length aces → x ≡ slice_index_or aces i x
    → slice_index_or (aces_in aces) i (ace x) ≡ ace x
index_is aces i x h is = ap (λ v. slice_index_or (aces_in aces) i (ace v)) is ∙ index_of aces i x h ∙ ap ace (sym is)

-- the principal of the code's ACE at a place is that of the list there
pub named_in : (aces : List AceRef) (i : ℕ) (a : AceRef) → i < length aces → a ≡ slice_index_or aces i a
    → principal_of (ace a) ≡ (key_here (aces_in aces) i).0
named_in [] i a l e = absurd (omega (arith, l))
named_in (b ∷ aces) zero a l e = ap (λ v. principal_of (ace v)) e
named_in (b ∷ aces) (suc i) a l e = named_in aces i a (omega (arith, l)) e

-- after the last place the principal is everyone
pub named_after : (aces : List AceRef) (i : ℕ) → length aces ≤ i → (key_here (aces_in aces) i).0 ≡ everyone
named_after [] i l = refl
named_after (b ∷ aces) zero l = absurd (omega (arith, l))
named_after (b ∷ aces) (suc i) l = named_after aces i (omega (arith, l))

-- the key at a place is that of the ACE there
pub key_at_index : (xs : List Ace) (i : ℕ) (d : Ace) → i < length xs
    → key_here xs i ≡ ace_key (slice_index_or xs i d)
key_at_index [] i d h = absurd (omega (arith, h))
key_at_index (a ∷ xs) zero d h = refl
key_at_index (a ∷ xs) (suc i) d h = key_at_index xs i d (omega (arith, h))

-- the ACE with another mask
abbrev pub masked : Ace → ℕ → Ace
masked a m = record a { mask = m }

-- without masks no ACE is shown
pub masks_none : (aces : List AceRef) → with_masks aces [] ≡ []
masks_none [] = refl
masks_none (x ∷ aces) = refl

-- one mask more shows one ACE more
pub masks_push : (aces : List AceRef) (masks : List ℕ) (x : AceRef) (m : ℕ) → length masks < length aces
    → x ≡ slice_index_or aces (length masks) x
    → with_masks aces (masks ++ m ∷ []) ≡ with_masks aces masks ++ masked (ace x) m ∷ []
masks_push [] masks x m h is = absurd (omega (arith, h))
masks_push (y ∷ aces) [] x m h is =
    ap (λ v. masked (ace y) m ∷ v) (masks_none aces) ∙ sym (ap (λ v. masked (ace v) m ∷ []) is)
masks_push (y ∷ aces) (n ∷ masks) x m h is =
    ap (λ v. masked (ace y) n ∷ v) (masks_push aces masks x m (omega (arith, h)) is)

-- the mask at a place of a list with masks is the one given for it
pub mask_there : (aces : List AceRef) (masks : List ℕ) (i d : ℕ) → i < length (with_masks aces masks)
    → slice_index_or masks i d ≡ mask_here (with_masks aces masks) i
mask_there [] masks i d h = absurd (omega arith)
mask_there (x ∷ aces) [] i d h = absurd (omega arith)
mask_there (x ∷ aces) (m ∷ masks) zero d h = refl
mask_there (x ∷ aces) (m ∷ masks) (suc i) d h = mask_there aces masks i d (omega arith)

-- the ACE at a place of a list with masks is the code's ACE with the mask given for it
pub masked_at : (aces : List AceRef) (masks : List ℕ) (i : ℕ) (x : AceRef) → i < length aces
    → length masks ≡ length aces → x ≡ slice_index_or aces i x
    → slice_index_or (with_masks aces masks) i (masked (ace x) (slice_index_or masks i 0))
    ≡ masked (ace x) (slice_index_or masks i 0)
masked_at [] masks i x l h is = absurd (omega (arith, l))
masked_at (y ∷ aces) [] i x l h is = absurd (omega (arith, h))
masked_at (y ∷ aces) (n ∷ masks) zero x l h is = ap (λ v. masked (ace v) n) (sym is)
masked_at (y ∷ aces) (n ∷ masks) (suc i) x l h is =
    masked_at aces masks i x (omega (arith, l)) (omega (arith, h)) is

-- the ACE at a place of a quiet list takes part or has no bit
pub quiet_index : (xs : List Ace) (i : ℕ) {a : Ace} → IsQuiet xs → i < length xs → slice_index_or xs i a ≡ a
    → is_inherit_only a ≡ true → a.mask ≡ 0
quiet_index [] i q l is = absurd (omega (arith, l))
quiet_index (x ∷ xs) zero q l is = subst (λ v. is_inherit_only v ≡ true → v.mask ≡ 0) is q.0
quiet_index (x ∷ xs) (suc i) q l is = quiet_index xs i q.1 (omega (arith, l)) is
