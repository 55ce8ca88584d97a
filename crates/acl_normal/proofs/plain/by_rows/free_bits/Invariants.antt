use Rattle.acl_normal.proofs.Common.{ace, ace_key, IsMask}
use Rattle.acl_normal.proofs.plain.FreeInRows.{HasFreeBelow}
use Rattle.acl_normal.proofs.plain.by_rows.free_bits.Given as goal

-- the rights so far on which the key is free
abbrev pub invariant-loop-bit : goal.invariant-loop-bit
invariant-loop-bit l = record {
  within : IsMask l.free.0;
  below : HasFreeBelow l.rows (ace_key (ace l.item)) l.free.0 l.bit;
}
