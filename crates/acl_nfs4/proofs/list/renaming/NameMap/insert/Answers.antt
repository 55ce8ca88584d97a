use Rattle.acl_nfs4.proofs.list.NameMaps.{put_group, put_user}
use Rattle.acl_nfs4.proofs.list.renaming.NameMap.insert.Goals as goal

pub returns-in_ok-insert : goal.returns-in_ok-insert
returns-in_ok-insert c = put_group c.args.self.now c.insert.new.self c.args.is_group c.args.name.now c.args.value
    c.if-is_group.true c.in_ok-insert.ensures.updates

pub returns-in_ok-insert-2 : goal.returns-in_ok-insert-2
returns-in_ok-insert-2 c = put_user c.args.self.now c.insert-else-is_group.new.self c.args.is_group c.args.name.now
    c.args.value c.if-is_group.false c.in_ok-insert-2.ensures.updates
