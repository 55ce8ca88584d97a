use Rattle.std.specs.Prelude.{◌≡◌, take}
use Rattle.acl_normal.specs.Common.{aces_in}
use Rattle.acl_contain.specs.internal.InPlace.{all_in_place}
use Rattle.acl_contain.proofs.restricting.short_path.ShortPath.list.Given as goal

-- the ACEs so far
abbrev pub invariant-loop-item : goal.invariant-loop-item
invariant-loop-item l = aces_in l.list.items ≡ all_in_place l.self (aces_in (take l.item-index l.aces))
