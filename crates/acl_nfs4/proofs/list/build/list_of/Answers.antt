use Rattle.acl_nfs4.proofs.list.FromAces.{build_fails, build_on}
use Rattle.acl_nfs4.proofs.list.build.list_of.Goals as goal

pub loop-item-preserved : goal.loop-item-preserved
loop-item-preserved c = build_on c.args.aces.now c.loop-item.item-index c.item-item.result c.loop-item.list
    c.push_next.new.list c.loop-item-test.true c.item-item.is c.loop-item.invariant c.in_ok-push_next.ensures

pub returns-in_err-push_next-clause-fault : goal.returns-in_err-push_next-clause-fault
returns-in_err-push_next-clause-fault c = build_fails _ c.from_residual.result c.args.aces.now c.loop-item.item-index
    c.item-item.result c.loop-item.list c.from_residual.ensures.1 c.loop-item-test.true c.item-item.is
    c.loop-item.invariant c.in_err-push_next.ensures
