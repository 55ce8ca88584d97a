use Rattle.acl_eval.proofs.Parts.{allows_fit, denies_fit, others_fit, users_fit, four_parts}
use Rattle.acl_eval.proofs.bridging.bridged.Goals as goal

pub push_part-requires : goal.push_part-requires
push_part-requires c = users_fit c.args.acl.now c.new-list.result c.new-list.ensures c.requires

pub push_part-requires-2 : goal.push_part-requires-2
push_part-requires-2 c = allows_fit c.args.acl.now c.new-list.result c.push_part.new.list c.new-list.ensures
    c.in_ok-push_part.ensures c.requires

pub push_part-requires-3 : goal.push_part-requires-3
push_part-requires-3 c = denies_fit c.args.acl.now c.new-list.result c.push_part.new.list c.push_part-2.new.list
    c.new-list.ensures c.in_ok-push_part.ensures c.in_ok-push_part-2.ensures c.requires

pub push_part-requires-4 : goal.push_part-requires-4
push_part-requires-4 c = others_fit c.args.acl.now c.new-list.result c.push_part.new.list c.push_part-2.new.list
    c.push_part-3.new.list c.new-list.ensures c.in_ok-push_part.ensures c.in_ok-push_part-2.ensures
    c.in_ok-push_part-3.ensures c.requires

pub returns : goal.returns
returns c = four_parts c.args.acl.now c.new-list.result c.push_part.new.list c.push_part-2.new.list
    c.push_part-3.new.list c.push_part-4.new.list c.new-list.ensures c.in_ok-push_part.ensures
    c.in_ok-push_part-2.ensures c.in_ok-push_part-3.ensures c.in_ok-push_part-4.ensures
