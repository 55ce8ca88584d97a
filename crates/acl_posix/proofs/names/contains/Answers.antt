use Rattle.acl_posix.proofs.Common.{◌∙◌}
use Rattle.acl_posix.proofs.names.NameLemmas.{has_name}
use Rattle.acl_posix.proofs.names.contains.Goals as goal

pub returns : goal.returns
returns c = c.contains_key.ensures ∙ has_name c.args.name.now c.args.ids.now.entries
