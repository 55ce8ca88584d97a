use Rattle.std.proofs.Common.{◌∙◌}
use Rattle.acl_forms.proofs.NamesOfIds.{has_id}
use Rattle.acl_forms.proofs.posix_text.names.has_name.Goals as goal

pub returns : goal.returns
returns c = c.contains_key.ensures ∙ has_id c.args.id c.args.names.now.entries
