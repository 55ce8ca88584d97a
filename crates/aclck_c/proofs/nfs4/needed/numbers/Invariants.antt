use Rattle.std.specs.Prelude.{◌≡◌, map, take}
use Rattle.aclck_c.proofs.nfs4.needed.numbers.Given as goal

-- the masks so far
abbrev pub invariant-loop-mask : goal.invariant-loop-mask
invariant-loop-mask l = l.numbers.items ≡ map (λ m. m.bits) (take l.mask-index l.masks)
