-- What lists of one outline have in common: all but the masks.
use Rattle.acl_normal.proofs.Common.{aces_with, [], Ace, AceRef, aces_in, ap, arith, key_here, length, List, Mask, mask_numbers, nothing_left, refl, suc, sym, with_masks, zero, ℕ, ◌++◌, ◌∙◌, ◌∷◌, ◌≡◌}
use Rattle.acl_normal.proofs.rows.MaskNumbers.{bits_length}

-- the outline of a list has as many ACEs
pub outline_length : (xs : List Ace) → length (nothing_left xs) ≡ length xs
outline_length [] = refl
outline_length (a ∷ xs) = ap suc (outline_length xs)

-- the outline of a list has the same key at each place
pub outline_key : (xs : List Ace) (i : ℕ) → key_here (nothing_left xs) i ≡ key_here xs i
outline_key [] i = refl
outline_key (a ∷ xs) zero = refl
outline_key (a ∷ xs) (suc i) = outline_key xs i

-- lists of one outline have the same number of ACEs
pub length_alike : (xs ys : List Ace) → nothing_left xs ≡ nothing_left ys → length xs ≡ length ys
length_alike xs ys e = sym (outline_length xs) ∙ ap length e ∙ outline_length ys

-- lists of one outline have the same key at each place
pub key_alike : (xs ys : List Ace) (i : ℕ) → nothing_left xs ≡ nothing_left ys → key_here xs i ≡ key_here ys i
key_alike xs ys i e = sym (outline_key xs i) ∙ ap (λ v. key_here v i) e ∙ outline_key ys i

-- with a mask for each, ACEs keep their outline
pub outline_shown : (aces : List AceRef) (masks : List ℕ) → length masks ≡ length aces
    → nothing_left (with_masks aces masks) ≡ nothing_left (aces_in aces)
outline_shown [] masks h = refl
outline_shown (x ∷ aces) [] h = absurd (omega (arith, h))
outline_shown (x ∷ aces) (m ∷ masks) h =
    ap (λ v. record { kind = x.kind; flags = x.flags.bits; mask = 0; who = x.who.now } ∷ v)
    (outline_shown aces masks (omega (arith, h)))

-- with a mask for each, as many ACEs are shown as there are
pub length_shown : (aces : List AceRef) (masks : List ℕ) → length masks ≡ length aces
    → length (with_masks aces masks) ≡ length aces
length_shown [] masks h = refl
length_shown (x ∷ aces) [] h = absurd (omega (arith, h))
length_shown (x ∷ aces) (m ∷ masks) h = ap suc (length_shown aces masks (omega (arith, h)))

-- with a mask of the code for each, as many ACEs are shown as there are
pub masked_count : (aces : List AceRef) (masks : List Mask) → length masks ≡ length aces
    → length (aces_with aces masks) ≡ length aces
masked_count aces masks same = length_shown aces (mask_numbers masks) (bits_length masks ∙ same)

-- the outline of two lists together is that of each
pub nothing_append : (xs ys : List Ace) → nothing_left (xs ++ ys) ≡ nothing_left xs ++ nothing_left ys
nothing_append [] ys = refl
nothing_append (a ∷ xs) ys = ap (λ v. record a { mask = 0 } ∷ v) (nothing_append xs ys)
