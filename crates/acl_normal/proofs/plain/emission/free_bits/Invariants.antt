use Rattle.acl_normal.proofs.Common.{ace, ace_key, aces_in, column, conflicts_before, is_free, IsMask, take}
use Rattle.acl_normal.proofs.plain.Gathered.{Marks}
use Rattle.acl_normal.proofs.plain.emission.free_bits.Given as goal

-- the bits at which the ACEs so far keep the key from coming first, and those at which it is free among them
abbrev pub invariant-loop-other : goal.invariant-loop-other
invariant-loop-other l = record {
  within : IsMask l.free.0 × IsMask l.blocked.0;
  blocked : Marks l.blocked.0
      (λ bit. conflicts_before (column (aces_in (take l.other-index l.left)) bit) (ace_key (ace l.item)));
  free : Marks l.free.0 (λ bit. is_free (column (aces_in (take l.other-index l.left)) bit) (ace_key (ace l.item)));
}
