use Rattle.acl_to_posix.specs.internal.ShapeBody.{entry_shape_of}
use Rattle.acl_to_posix.proofs.shapes.ShapeBuilding.{group_put, groups_done, member_at}
use Rattle.acl_to_posix.proofs.posix_shape.add_groups.Goals as goal

pub entry_perm-requires-clause-there : goal.entry_perm-requires-clause-there
entry_perm-requires-clause-there c = member_at c.args.shape.now.groups.now c.loop-group.group-index c.group-item.result
    c.loop-group-test.true c.group-item.is

pub loop-group-preserved : goal.loop-group-preserved
loop-group-preserved c = λ list columns before. group_put list (entry_shape_of c.args.shape.now)
    (entry_shape_of c.args.shape.now).users c.args.shape.now.groups.now c.loop-group.group-index c.group-item.result
    c.entry_perm.result.bits c.loop-group.acl c.put.new.acl c.loop-group-test.true c.group-item.is
    (c.entry_perm.ensures.just list columns) c.in_ok-put.ensures (c.loop-group.invariant list columns before)

pub returns : goal.returns
returns c =
    λ list columns before. groups_done list (entry_shape_of c.args.shape.now) (entry_shape_of c.args.shape.now).users
    c.args.shape.now.groups.now c.loop-group.group-index c.loop-group.acl c.loop-group-test.false
    (c.loop-group.invariant list columns before)
