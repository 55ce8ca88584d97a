use Rattle.acl_normal.proofs.Common.{aces_with, take}
use Rattle.acl_normal.specs.internal.rows.Waiting.{HoldWaiting}
use Rattle.acl_normal.proofs.rows.waiting.waiting_sets.Given as goal

abbrev pub invariant-loop-place : goal.invariant-loop-place
invariant-loop-place l = HoldWaiting (take l.place (aces_with l.aces l.masks)) l.sets.items
