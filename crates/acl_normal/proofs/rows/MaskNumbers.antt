-- The numbers of the masks that the code holds, by place.
use Rattle.acl_normal.proofs.Common.{IsMask, List, Mask, [], ap, arith, get_or-map, length, length-map, map-append, mask_numbers, refl, replicate, slice_index_or, slice_set, suc, sym, zero, ℕ, ◌++◌, ◌<◌, ◌∙◌, ◌∷◌, ◌≡◌}
use Rattle.std.proofs.lemmas.List.{map-set}

-- there are as many numbers as masks
pub bits_length : (masks : List Mask) → length (mask_numbers masks) ≡ length masks
bits_length masks = length-map masks (λ m. m.bits)

-- the number at a place is that of the code's mask there
pub bits_at : (masks : List Mask) (i d : ℕ) (m : Mask) → i < length masks → m ≡ slice_index_or masks i m
    → slice_index_or (mask_numbers masks) i d ≡ m.bits
bits_at masks i d m within is = get_or-map (λ m. m.bits) masks i m d within ∙ ap (λ v. v.bits) (sym is)

-- one mask more adds its number after the others
pub bits_push : (masks : List Mask) (m : Mask) → mask_numbers (masks ++ m ∷ []) ≡ mask_numbers masks ++ m.bits ∷ []
bits_push masks m = map-append (λ m. m.bits) masks (m ∷ [])

-- a mask in the place of another has its number in the place of the other's
pub bits_set : (masks : List Mask) (i : ℕ) (m : Mask)
    → mask_numbers (slice_set masks i m) ≡ slice_set (mask_numbers masks) i m.bits
bits_set masks i m = map-set (λ m. m.bits) masks i m

-- a mask that is everywhere has its number everywhere
pub bits_all : (n : ℕ) (m : Mask) → mask_numbers (replicate n m) ≡ replicate n m.bits
bits_all zero m = refl
bits_all (suc n) m = ap (λ v. m.bits ∷ v) (bits_all n m)

-- the number of each mask is a set of rights
pub bits_within : (masks : List Mask) (i : ℕ) → i < length masks → IsMask (slice_index_or (mask_numbers masks) i 0)
bits_within [] i within = absurd (omega (arith, within))
bits_within (m ∷ masks) zero within = m.within
bits_within (m ∷ masks) (suc i) within = bits_within masks i (omega (arith, within))
