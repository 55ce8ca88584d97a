use Rattle.acl_contain.proofs.Enumeration.{names_added, next_added}
use Rattle.acl_normal.specs.SmallSituations.{group_names}
use Rattle.acl_contain.proofs.asking.names_in.Goals as goal

pub loop-p-preserved : goal.loop-p-preserved
loop-p-preserved c = next_added group_names names_added c.args.set.now _ c.loop-p.p-index _ c.loop-p-test.true
    c.in_ok-add_name.ensures c.loop-p.invariant
