use Rattle.acl_normal.proofs.Common.{mask_numbers, IsMask}
use Rattle.acl_normal.proofs.reduce.FirstMasks.{Reaches}
use Rattle.acl_normal.proofs.reduce.shadowed_rights.first_masks.Given as goal

abbrev pub invariant-loop-place : goal.invariant-loop-place
invariant-loop-place l = record {
  within : IsMask l.everyone.0;
  reaches : Reaches l.aces l.place (mask_numbers l.masks.items) (mask_numbers l.seen.items) l.everyone.0;
}
