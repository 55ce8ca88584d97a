use Rattle.std.proofs.Common.{ap}
use Rattle.acl_posix.specs.Tag.{tag_of}
use Rattle.acl_to_posix.specs.internal.ShapeBody.{entry_shape_of}
use Rattle.acl_to_posix.proofs.prunings.PruneSteps.{user_behind}
use Rattle.acl_to_posix.proofs.shapes.ShapeBuilding.{member_at}
use Rattle.acl_to_posix.proofs.pruning.add_users.Goals as goal

pub judged-requires-clause-there : goal.judged-requires-clause-there
judged-requires-clause-there c = member_at c.args.shape.now.users.now c.loop-user.user-index c.user-item.result
    c.loop-user-test.true c.user-item.is

pub loop-user-preserved : goal.loop-user-preserved
loop-user-preserved c = λ before. user_behind c.args.columns.now (entry_shape_of c.args.shape.now)
    c.args.shape.now.users.now c.loop-user.user-index c.user-item.result c.loop-user.left.items c.push.new.self.items
    c.judged.result c.loop-user-test.true c.user-item.is c.judged.ensures.judged (ap tag_of c.judged.ensures.tag)
    c.in_ok-push.ensures.items (c.loop-user.invariant before)
