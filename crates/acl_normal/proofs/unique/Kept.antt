-- Sets with fewer bits stay within what a set is within.
use Rattle.std.proofs.Common.{true, ℕ, ◌≡◌}
use Rattle.acl_normal.proofs.Common.{and_parts, ap, arith, has_bit, has_bit-and, IsWithin, same_set, sym, ◌∙◌}

-- a set whose bits are bits of another is within that other
pub within_from : (set m : ℕ) → ((k : ℕ) → has_bit m k ≡ true → has_bit set k ≡ true) → IsWithin set m
within_from set m inside = same_set _ _ (λ k. grind (arith, has_bit-and m set k, inside k))

-- a set with fewer bits than one that is within another set is within that set
pub within_fewer : (set m n : ℕ) → IsWithin set n → ((k : ℕ) → has_bit m k ≡ true → has_bit n k ≡ true) → IsWithin set m
within_fewer set m n is fewer = within_from set m (λ k h.
    (and_parts (has_bit n k) (has_bit set k)
    (sym (has_bit-and n set k) ∙ ap (λ (v : ℕ). has_bit v k) is ∙ fewer k h)).1)
