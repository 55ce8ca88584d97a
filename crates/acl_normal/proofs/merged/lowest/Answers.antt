use Rattle.acl_normal.proofs.rows.Publics.{lowest_is}
use Rattle.acl_normal.proofs.merged.lowest.Goals as goal

pub returns-clause-some : goal.returns-clause-some
returns-clause-some c =
    lowest_is c.args.bits.bits c.next_right.result c.args.bits.within c.next_right.ensures.some
    c.next_right.ensures.none
