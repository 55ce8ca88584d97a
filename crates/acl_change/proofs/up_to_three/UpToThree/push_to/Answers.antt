use Rattle.std.proofs.Common.{◌++◌}
use Rattle.acl_eval.proofs.Parts.{first_fits}
use Rattle.acl_change.specs.internal.UpToThree.{up_to_one}
use Rattle.acl_change.proofs.ListChmod.{second_fits}
use Rattle.acl_change.proofs.up_to_three.UpToThree.push_to.Goals as goal

pub push-requires : goal.push-requires
push-requires c = let aces = c.args.self in
    first_fits c.args.list.now (up_to_one aces.first) (up_to_one aces.second ++ up_to_one aces.third) c.requires

pub push-requires-2 : goal.push-requires-2
push-requires-2 c = let aces = c.args.self in
    second_fits c.args.list.now c.push.new.list (up_to_one aces.first) (up_to_one aces.second) (up_to_one aces.third)
    c.in_ok-push.ensures c.requires
