use Rattle.std.specs.Prelude.{◌≡◌, ◌<◌, ◌^◌, ℕ}
use Rattle.aclck_c.proofs.nfs4.deciding.right_of.Given as goal

-- none of the bits so far is the mask
abbrev pub invariant-loop-bit : goal.invariant-loop-bit
invariant-loop-bit l = (k : ℕ) → k < l.bit → l.mask.bits ≡ 2 ^ k → ⊥
