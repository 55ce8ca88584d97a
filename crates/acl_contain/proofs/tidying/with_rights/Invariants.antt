use Rattle.std.specs.Prelude.{◌≡◌, take}
use Rattle.acl_normal.specs.Common.{aces_in, aces_with, left}
use Rattle.acl_normal.specs.internal.emit.Rising.{all_cleared}
use Rattle.acl_contain.proofs.tidying.with_rights.Given as goal

-- the ACEs so far that have rights
abbrev pub invariant-loop-place : goal.invariant-loop-place
invariant-loop-place l = aces_in l.kept.items ≡ all_cleared (left (take l.place (aces_with l.aces l.masks)))
