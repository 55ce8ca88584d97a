use Rattle.acl_posix.proofs.names.NameLemmas.{get_name}
use Rattle.acl_posix.proofs.names.Names.group.Goals as goal

pub returns : goal.returns
returns c = rw (← c.self.view_is, c.copied.ensures, c.get.ensures.value)
    (get_name c.args.name.now c.self.inside.groups.entries)
