use Rattle.acl_to_posix.specs.internal.ShapeBody.{entry_shape_of}
use Rattle.acl_to_posix.proofs.shapes.ShapeBuilding.{member_at, user_put, users_done}
use Rattle.acl_to_posix.proofs.posix_shape.add_users.Goals as goal

pub entry_perm-requires-clause-there : goal.entry_perm-requires-clause-there
entry_perm-requires-clause-there c = member_at c.args.shape.now.users.now c.loop-user.user-index c.user-item.result
    c.loop-user-test.true c.user-item.is

pub loop-user-preserved : goal.loop-user-preserved
loop-user-preserved c =
    λ list columns before. user_put list (entry_shape_of c.args.shape.now) c.args.shape.now.users.now
    c.loop-user.user-index c.user-item.result c.entry_perm.result.bits c.loop-user.acl c.put.new.acl
    c.loop-user-test.true c.user-item.is (c.entry_perm.ensures.just list columns) c.in_ok-put.ensures
    (c.loop-user.invariant list columns before)

pub returns : goal.returns
returns c = λ list columns before. users_done list (entry_shape_of c.args.shape.now) c.args.shape.now.users.now
    c.loop-user.user-index c.loop-user.acl c.loop-user-test.false (c.loop-user.invariant list columns before)
