use Rattle.std.specs.Prelude.{◌≡◌, take}
use Rattle.acl_normal.specs.Common.{aces_in}
use Rattle.acl_contain.specs.internal.Limits.{denials}
use Rattle.acl_contain.proofs.restricting.naming.denials.Given as goal

-- the ACEs so far
abbrev pub invariant-loop-item : goal.invariant-loop-item
invariant-loop-item l = aces_in l.found.items ≡ denials (aces_in (take l.item-index l.aces))
