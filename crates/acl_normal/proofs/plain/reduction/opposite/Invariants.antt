use Rattle.acl_normal.proofs.Common.{ace, aces_in, column, has_opposite, IsMask, principal_of, take}
use Rattle.acl_normal.proofs.plain.Gathered.{Marks}
use Rattle.acl_normal.proofs.plain.reduction.opposite.Given as goal

-- the bits so far are those of the ACEs so far
abbrev pub invariant-loop-other : goal.invariant-loop-other
invariant-loop-other l = record {
  within : IsMask l.bits.0;
  marks : Marks l.bits.0 (λ bit. has_opposite l.item.kind (principal_of (ace l.item))
      (column (aces_in (take l.other-index l.later)) bit));
}
