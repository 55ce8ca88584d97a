use Rattle.acl_forms.proofs.IdLemmas.{ids_bytes, one_value}
use Rattle.acl_forms.proofs.laws.one_acl41_ids.Goals as goal

pub returns-clause-bytes : goal.returns-clause-bytes
returns-clause-bytes c = ids_bytes

pub returns-clause-list : goal.returns-clause-list
returns-clause-list c = one_value
