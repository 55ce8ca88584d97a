use Rattle.acl_normal.proofs.Common.{take, ◌*◌, ◌≡◌, ◌≤◌}
use Rattle.acl_normal.specs.internal.Counts.{rights_together}
use Rattle.acl_normal.proofs.short_form.count_rights.Given as goal

-- the rights of the masks so far, at most 32 for each mask
abbrev pub invariant-loop-mask : goal.invariant-loop-mask
invariant-loop-mask l = record {
  counted : l.count ≡ rights_together (take l.mask-index l.masks);
  few : l.count ≤ 32 * l.mask-index;
}
