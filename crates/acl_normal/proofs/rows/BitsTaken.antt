-- Several bits of a principal taken out, one after the other.
use Rattle.acl_normal.proofs.Common.{[], Ace, ace, AceRef, add-one, ap, arith, bit_or, false, has_bit, has_bit-or, has_bit-without, key_here, length, List, low_bits, nat_lt, Principal, principal_of, refl, slice_index_or, subst, suc, sym, take_out, true, with_masks, without, without_bits, zero, ℕ, ◌&&◌, ◌+◌, ◌<◌, ◌^◌, ◌∙◌, ◌∷◌, ◌≡◌, ◌≤◌, principal_eq, is_inherit_only, Bool, not, ◌||◌, cases_eq, cases_lt, eq-eqb, ne_eqb, inl, inr, le-ltb, lt-ltb, ⊎_elim, ◌⊎◌}
use Rattle.acl_normal.proofs.unique.Bits.{masks_same, no_bits_of_zero, power_is}
use Rattle.std.proofs.Math.Bool.{and-true, or-true, or-false}

-- an ACE from which no bits are taken stays as it is
pub without_nothing : (p : Principal) (a : Ace) → without_bits p 0 a ≡ a
without_nothing p a = go (principal_eq (principal_of a) p && not (is_inherit_only a)) refl
  where
    same : without a.mask 0 ≡ a.mask
    same =
        masks_same _ _ (λ b. has_bit-without a.mask 0 b
        ∙ ap (λ v. has_bit a.mask b && not v) (no_bits_of_zero b) ∙ and-true (has_bit a.mask b))

    go : (t : Bool) → (principal_eq (principal_of a) p && not (is_inherit_only a)) ≡ t → without_bits p 0 a ≡ a
    go true e = rw e (ap (λ v. record a { mask = v }) same)
    go false e = rw e refl

-- a list from which no bits are taken stays as it is
pub take_zero : (p : Principal) (xs : List Ace) → take_out p 0 xs ≡ xs
take_zero p [] = refl
take_zero p (a ∷ xs) = ap (λ v. v ∷ take_out p 0 xs) (without_nothing p a) ∙ ap (λ v. a ∷ v) (take_zero p xs)

-- bits taken from an ACE in two turns are taken together
pub without_both : (p : Principal) (m n : ℕ) (a : Ace)
    → without_bits p n (without_bits p m a) ≡ without_bits p (bit_or m n) a
without_both p m n a = go (principal_eq (principal_of a) p && not (is_inherit_only a)) refl
  where
    bools : (x y z : Bool) → ((x && not y) && not z) ≡ (x && not (y || z))
    bools true true z = refl
    bools true false z = refl
    bools false y z = refl

    same : without (without a.mask m) n ≡ without a.mask (bit_or m n)
    same =
        masks_same _ _ (λ b. has_bit-without (without a.mask m) n b
        ∙ rw (has_bit-without a.mask m b, has_bit-without a.mask (bit_or m n) b, has_bit-or m n b)
        (bools (has_bit a.mask b) (has_bit m b) (has_bit n b)))

    go : (t : Bool) → (principal_eq (principal_of a) p && not (is_inherit_only a)) ≡ t
        → without_bits p n (without_bits p m a) ≡ without_bits p (bit_or m n) a
    go true e = rw e (rw e (ap (λ v. record a { mask = v }) same))
    go false e = rw e (rw e refl)

-- bits taken from a list in two turns are taken together
pub take_both : (p : Principal) (m n : ℕ) (xs : List Ace) → take_out p n (take_out p m xs) ≡ take_out p (bit_or m n) xs
take_both p m n [] = refl
take_both p m n (a ∷ xs) =
    ap (λ v. v ∷ take_out p n (take_out p m xs)) (without_both p m n a) ∙ ap (λ v. without_bits p (bit_or m n) a ∷ v)
    (take_both p m n xs)

-- with bit b taken, which the mask has, its bits below b + 1 are taken
pub emit_more : (p : Principal) (m b : ℕ) (xs ys zs : List Ace) → has_bit m b ≡ true
    → ys ≡ take_out p (low_bits m b) xs → zs ≡ take_out p (2 ^ b) ys → zs ≡ take_out p (low_bits m (b + 1)) xs
emit_more p m b xs ys zs h e f =
    rw add-one (rw h (f ∙ ap (take_out p (2 ^ b)) e ∙ take_both p (low_bits m b) (2 ^ b) xs))

-- if the mask lacks bit b, its bits below b + 1 are taken when those below b are
pub emit_same : (p : Principal) (m b : ℕ) (xs ys : List Ace) → has_bit m b ≡ false → ys ≡ take_out p (low_bits m b) xs
    → ys ≡ take_out p (low_bits m (b + 1)) xs
emit_same p m b xs ys h e = rw add-one (rw h e)

-- the low bits of a mask are its bits below the number
pub has_bit-low : (m b i : ℕ) → has_bit (low_bits m b) i ≡ (has_bit m i && nat_lt i b)
has_bit-low m zero i = grind (arith, no_bits_of_zero i)
has_bit-low m (suc b) i = go (has_bit m b) refl (cases_eq i b) (has_bit-low m b i)
  where
    next : (i ≡ b → ⊥) → (i < b) ⊎ (b ≤ i) → nat_lt i b ≡ nat_lt i (suc b)
    next d (inl l) = lt-ltb i b l ∙ sym (lt-ltb i (suc b) (omega (arith, l)))
    next d (inr l) =
        le-ltb i b l
        ∙ sym (le-ltb i (suc b) (⊎_elim (λ (u : b < i). omega (arith, u)) (λ u. absurd (d (omega (arith, l, u))))
        (cases_lt b i)))

    go : (t : Bool) → has_bit m b ≡ t → (i ≡ b) ⊎ (i ≡ b → ⊥)
        → has_bit (low_bits m b) i ≡ (has_bit m i && nat_lt i b)
        → has_bit (low_bits m (suc b)) i ≡ (has_bit m i && nat_lt i (suc b))
    go true e (inl s) ih =
        rw e (has_bit-or (low_bits m b) (2 ^ b) i
        ∙ ap (λ v. has_bit (low_bits m b) i || v) (power_is b i ∙ eq-eqb i b s)
        ∙ or-true (has_bit (low_bits m b) i)
        ∙ sym (ap (λ v. v && nat_lt i (suc b)) (ap (has_bit m) s ∙ e) ∙ lt-ltb i (suc b) (omega (arith, s))))
    go true e (inr d) ih =
        rw e (has_bit-or (low_bits m b) (2 ^ b) i
        ∙ ap (λ v. has_bit (low_bits m b) i || v) (power_is b i ∙ ne_eqb i b d)
        ∙ or-false (has_bit (low_bits m b) i) ∙ ih ∙ ap (λ v. has_bit m i && v) (next d (cases_lt i b)))
    go false e (inl s) ih =
        rw e (ih ∙ ap (λ v. v && nat_lt i b) (ap (has_bit m) s ∙ e)
        ∙ sym (ap (λ v. v && nat_lt i (suc b)) (ap (has_bit m) s ∙ e)))
    go false e (inr d) ih = rw e (ih ∙ ap (λ v. has_bit m i && v) (next d (cases_lt i b)))

-- the low bits of a mask are the whole mask if it has no bit from the number on
pub low_all : (m b : ℕ) → ((i : ℕ) → b ≤ i → has_bit m i ≡ false) → low_bits m b ≡ m
low_all m b h = masks_same _ _ (λ i. has_bit-low m b i ∙ grind (arith, h i))

-- a place of a list with masks is one of the ACEs
pub place_within : (aces : List AceRef) (masks : List ℕ) (i : ℕ) → i < length (with_masks aces masks) → i < length aces
place_within [] masks i h = absurd (omega arith)
place_within (x ∷ aces) [] i h = absurd (omega arith)
place_within (x ∷ aces) (m ∷ masks) zero h = omega arith
place_within (x ∷ aces) (m ∷ masks) (suc i) h = omega (arith, place_within aces masks i (omega arith))

-- the key at a place of a list with masks is that of the ACE there
pub key_there : (aces : List AceRef) (masks : List ℕ) (i : ℕ) (d : AceRef) → i < length (with_masks aces masks)
    → (principal_of (ace (slice_index_or aces i d)), (slice_index_or aces i d).kind) ≡ key_here
    (with_masks aces masks) i
key_there [] masks i d h = absurd (omega arith)
key_there (x ∷ aces) [] i d h = absurd (omega arith)
key_there (x ∷ aces) (m ∷ masks) zero d h = refl
key_there (x ∷ aces) (m ∷ masks) (suc i) d h = key_there aces masks i d (omega arith)

-- a place of a list that is what is left is one of the ACEs
pub place_of_left : (aces : List AceRef) (masks : List ℕ) (i : ℕ) (xs : List Ace) → with_masks aces masks ≡ xs
    → i < length xs → i < length aces
place_of_left aces masks i xs is l = place_within aces masks i (subst (λ v. i < length v) (sym is) l)

-- the key at a place of what is left is that of the ACE there
pub key_of_left : (aces : List AceRef) (masks : List ℕ) {i : ℕ} (d : AceRef) {xs : List Ace}
    → with_masks aces masks ≡ xs → i < length xs
    → (principal_of (ace (slice_index_or aces i d)), (slice_index_or aces i d).kind) ≡ key_here xs i
key_of_left aces masks {i} d is l =
    key_there aces masks i d (subst (λ v. i < length v) (sym is) l) ∙ ap (λ v. key_here v i) is
