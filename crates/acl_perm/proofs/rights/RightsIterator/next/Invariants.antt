use Rattle.std.proofs.Common.{◌-◌, ◌≡◌, ◌≤◌}
use Rattle.acl_perm.specs.internal.RightsLeft.{rights_from}
use Rattle.acl_perm.proofs.rights.RightsIterator.next.Given as goal

-- the rights that are left are those that were left, because the bits that were passed are in no mask
abbrev pub invariant-loop-self : goal.invariant-loop-self
invariant-loop-self l = record {
  within : l.self-inside.from ≤ 21;
  same : rights_from l.self-inside.mask.bits l.self-inside.from ≡ l.fn.self;
}

abbrev pub decreases-loop-self : goal.decreases-loop-self
decreases-loop-self l = 21 - l.self-inside.from
