use Rattle.acl_nfs4.proofs.xdr.StandIns.{groups_light, named_at}
use Rattle.acl_nfs4.proofs.xdr.unknown_groups.list_of.Goals as goal

pub push_group-requires-clause-light : goal.push_group-requires-clause-light
push_group-requires-clause-light c = groups_light c.args.suffix.now c.args.aces.now c.loop-item.item-index
    c.item-item.result c.loop-item.list c.loop-item-test.true c.item-item.is c.requires.part c.loop-item.invariant

pub push_group-requires-clause-named : goal.push_group-requires-clause-named
push_group-requires-clause-named c = named_at c.args.suffix.now c.args.aces.now c.loop-item.item-index
    c.item-item.result c.loop-item-test.true c.item-item.is c.requires.named
