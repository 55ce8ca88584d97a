use Rattle.acl_forms.proofs.NfsReadBack.{nfs_same_principal, nfs_written_same}
use Rattle.acl_forms.proofs.laws.nfs_text_names_the_same.Goals as goal

pub returns-clause-same : goal.returns-clause-same
returns-clause-same c = nfs_written_same

pub returns-clause-principal : goal.returns-clause-principal
returns-clause-principal c = nfs_same_principal
