use Rattle.acl_forms.proofs.TextLemmas.{no_fault, one_fault, one_list}
use Rattle.acl_forms.specs.NfsRules.{nfs_rules}
use Rattle.acl_forms.proofs.laws.one_nfs_text.Goals as goal

pub returns-clause-list : goal.returns-clause-list
returns-clause-list c = λ source. one_list (nfs_rules source)

pub returns-clause-fault : goal.returns-clause-fault
returns-clause-fault c = λ source. one_fault (nfs_rules source)

pub returns-clause-either : goal.returns-clause-either
returns-clause-either c = λ source. no_fault (nfs_rules source)
