use Rattle.acl_normal.proofs.unique.Spelled.{forms_tell, form_of}
use Rattle.acl_normal.proofs.laws.equal_bytes.Goals as goal

pub returns-clause-spelled : goal.returns-clause-spelled
returns-clause-spelled c = forms_tell

pub returns-clause-forms : goal.returns-clause-forms
returns-clause-forms c = λ p a b n m is f g.
    forms_tell p a b n m is (form_of p a n is f.accepted f.is_form) (form_of p b m is g.accepted g.is_form)
