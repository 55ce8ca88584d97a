use Rattle.std.specs.Prelude.{◌≡◌, take}
use Rattle.acl_normal.proofs.rows.heads.shared_start.Given as goal

abbrev pub invariant-loop-place : goal.invariant-loop-place
invariant-loop-place l = take l.place l.bytes ≡ take l.place l.others
