use Rattle.acl_normal.proofs.unique.FiveFormLemmas.{five_tell, joined_tell, spelled_tell}
use Rattle.acl_normal.proofs.laws.five_forms_tell_apart.Goals as goal

pub returns-clause-forms : goal.returns-clause-forms
returns-clause-forms c = five_tell

pub returns-clause-spelled : goal.returns-clause-spelled
returns-clause-spelled c = spelled_tell

pub returns-clause-joined : goal.returns-clause-joined
returns-clause-joined c = joined_tell
