use Rattle.acl_normal.proofs.Common.{aces_in, Allow, column, default, everyone, IsMask, kind_eq, take}
use Rattle.acl_normal.specs.internal.Best.{is_shadowed}
use Rattle.acl_normal.proofs.plain.Gathered.{Marks}
use Rattle.acl_normal.proofs.plain.reduction.allowed_to_everyone.Given as goal

-- the bits that the ACEs so far decide for everyone, and those that they allow
abbrev pub invariant-loop-item : goal.invariant-loop-item
invariant-loop-item l = record {
  within : IsMask l.allowed.0 × IsMask l.seen.0;
  seen : Marks l.seen.0 (is_shadowed everyone (aces_in (take l.item-index l.aces)));
  allowed : Marks l.allowed.0 (λ bit. kind_eq (default (column (aces_in (take l.item-index l.aces)) bit)) Allow);
}
