use Rattle.acl_normal.specs.internal.Shown.{mask_numbers}
use Rattle.acl_normal.proofs.reduce.Unneeded.{Dropping}
use Rattle.acl_normal.proofs.reduce.needless.drop_needless.Given as goal

abbrev pub invariant-loop-place : goal.invariant-loop-place
invariant-loop-place l = Dropping l.aces (mask_numbers l.fn.masks) (mask_numbers l.masks) l.place l.later
