use Rattle.acl_forms.proofs.Acl41Lemmas.{one_value}
use Rattle.acl_forms.proofs.laws.one_acl41.Goals as goal

pub returns-clause-list : goal.returns-clause-list
returns-clause-list c = one_value
