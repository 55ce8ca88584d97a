-- The rights of a mask that an iterator has not given yet.
use Rattle.std.proofs.Common.{◌≡◌, ◌∙◌, ℕ, ◌+◌, ◌-◌, ◌<◌, ◌≤◌, Bool, true, false, [], ◌∷◌, suc, cond, ap, arith}
use Rattle.std.specs.Prelude.{filter}
use Rattle.std.specs.List.{range_with_len}
use Rattle.acl_perm.proofs.Sets.{bits_from_mask}
use Rattle.acl_perm.specs.Bits.{has_bit}
use Rattle.acl_perm.specs.internal.RightsLeft.{rights_from}

-- the rights from a bit on are the bit, if the mask has it, and the rights from the next bit on
rights_from-step : (m f : ℕ) → f < 21
    → rights_from m f ≡ cond (has_bit m f) (f ∷ rights_from m (f + 1)) (rights_from m (f + 1))
rights_from-step m f lt =
    let one_more : 21 - f ≡ suc (21 - (f + 1)) = omega (arith, lt) in
    ap (λ (n : ℕ). filter (has_bit m) (range_with_len f n)) one_more

-- a bit that the mask has is the first that is left
pub left_first : (m f : ℕ) → f < 21 → has_bit m f ≡ true → rights_from m f ≡ f ∷ rights_from m (f + 1)
left_first m f lt h =
    rights_from-step m f lt ∙ ap (λ (b : Bool). cond b (f ∷ rights_from m (f + 1)) (rights_from m (f + 1))) h

-- a bit that the mask lacks is passed over
pub left_passed : (m f : ℕ) → f < 21 → has_bit m f ≡ false → rights_from m f ≡ rights_from m (f + 1)
left_passed m f lt h =
    rights_from-step m f lt ∙ ap (λ (b : Bool). cond b (f ∷ rights_from m (f + 1)) (rights_from m (f + 1))) h

-- after the highest bit nothing is left
pub left_none : (m f : ℕ) → 21 ≤ f → rights_from m f ≡ []
left_none m f le =
    let none : 21 - f ≡ 0 = omega (arith, le) in
    ap (λ (n : ℕ). filter (has_bit m) (range_with_len f n)) none

pub ruleset rights_left = (left_first, left_passed, left_none, bits_from_mask)
