use Rattle.std.specs.Prelude.{◌≡◌, take}
use Rattle.acl_normal.specs.Common.{aces_in}
use Rattle.acl_contain.specs.internal.InPlace.{all_put_back}
use Rattle.acl_contain.proofs.restricting.everywhere.kept_at.Given as goal

-- the ACEs before the place, with what they kept
abbrev pub invariant-loop-place : goal.invariant-loop-place
invariant-loop-place l =
    aces_in l.kept.items ≡ all_put_back l.path (take l.place (aces_in l.aces)) (aces_in l.left.items)
