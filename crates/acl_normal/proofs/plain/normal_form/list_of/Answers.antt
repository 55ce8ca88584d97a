use Rattle.acl_normal.proofs.Common.{arith}
use Rattle.acl_normal.proofs.plain.InTurn.{next_accepted}
use Rattle.acl_normal.proofs.plain.normal_form.list_of.Goals as goal

pub push_accepted-requires : goal.push_accepted-requires
push_accepted-requires c =
    next_accepted c.args.aces.now c.loop-ace.ace-index c.ace-item.result c.loop-ace.list c.requires (omega arith)
    c.ace-item.is c.loop-ace.invariant
