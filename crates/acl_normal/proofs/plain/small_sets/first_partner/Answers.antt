use Rattle.acl_normal.proofs.Common.{principal}
use Rattle.acl_normal.proofs.plain.small_sets.first_partner.Goals as goal
use Rattle.acl_normal.proofs.comparison.SetSearchLemmas.{partner_later}

pub loop-q-preserved : goal.loop-q-preserved
loop-q-preserved c =
    partner_later (principal c.args.p) c.args.rest.now _ c.loop-q-test.true c.if-differ_at_pair.ensures.agree
    c.loop-q.invariant
