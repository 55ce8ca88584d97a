use Rattle.acl_normal.proofs.unique.Forming.{empty_form}
use Rattle.acl_normal.proofs.normal_form.normalize_view.Goals as goal

pub returns-then-is_empty-clause-form : goal.returns-then-is_empty-clause-form
returns-then-is_empty-clause-form c = rw (c.is_empty.ensures.0 c.if-is_empty.true, c.new.ensures) empty_form
