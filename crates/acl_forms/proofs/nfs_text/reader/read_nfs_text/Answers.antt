use Rattle.acl_forms.proofs.TextLemmas.{only_fault, only_list}
use Rattle.acl_forms.specs.NfsRules.{nfs_rules}
use Rattle.acl_forms.proofs.nfs_text.reader.read_nfs_text.Goals as goal

pub returns-clause-only : goal.returns-clause-only
returns-clause-only c = only_list (nfs_rules c.args.source) c.args.text.now c.read_text.result c.read_text.ensures

pub returns-clause-refused : goal.returns-clause-refused
returns-clause-refused c = only_fault (nfs_rules c.args.source) c.args.text.now c.read_text.result c.read_text.ensures
