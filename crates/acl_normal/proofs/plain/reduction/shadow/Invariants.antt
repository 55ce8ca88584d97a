use Rattle.acl_normal.proofs.Common.{aces_in, IsMask, principal, take}
use Rattle.acl_normal.specs.internal.Best.{is_shadowed}
use Rattle.acl_normal.proofs.plain.Gathered.{Marks}
use Rattle.acl_normal.proofs.plain.reduction.shadow.Given as goal

-- the bits so far are those of the ACEs so far
abbrev pub invariant-loop-item : goal.invariant-loop-item
invariant-loop-item l = record {
  within : IsMask l.bits.0;
  marks : Marks l.bits.0 (is_shadowed (principal l.of) (aces_in (take l.item-index l.before)));
}
