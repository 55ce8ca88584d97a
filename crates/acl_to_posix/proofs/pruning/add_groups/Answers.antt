use Rattle.std.proofs.Common.{ap}
use Rattle.acl_posix.specs.Tag.{tag_of}
use Rattle.acl_to_posix.specs.internal.ShapeBody.{entry_shape_of}
use Rattle.acl_to_posix.proofs.prunings.PruneSteps.{group_behind}
use Rattle.acl_to_posix.proofs.shapes.ShapeBuilding.{member_at}
use Rattle.acl_to_posix.proofs.pruning.add_groups.Goals as goal

pub judged-requires-clause-there : goal.judged-requires-clause-there
judged-requires-clause-there c = member_at c.args.shape.now.groups.now c.loop-group.group-index c.group-item.result
    c.loop-group-test.true c.group-item.is

pub loop-group-preserved : goal.loop-group-preserved
loop-group-preserved c =
    λ before. group_behind c.args.columns.now (entry_shape_of c.args.shape.now) (entry_shape_of c.args.shape.now).users
    c.args.shape.now.groups.now c.loop-group.group-index c.group-item.result c.loop-group.left.items
    c.push.new.self.items
    c.judged.result c.loop-group-test.true c.group-item.is c.judged.ensures.judged (ap tag_of c.judged.ensures.tag)
    c.in_ok-push.ensures.items (c.loop-group.invariant before)
