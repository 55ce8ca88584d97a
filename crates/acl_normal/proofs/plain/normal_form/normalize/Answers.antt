use Rattle.acl_normal.proofs.Common.{aces_in, ap, full, IfOk-weaker, IsAccepted, IsNormalFormOf, subst, sym, ◌∙◌}
use Rattle.acl_normal.proofs.plain.PlainForm.{reduced_columns, reduced_form}
use Rattle.acl_normal.proofs.unique.Forming.{empty_form}
use Rattle.acl_normal.proofs.plain.normal_form.normalize.Goals as goal

pub returns-then-is_empty-clause-form : goal.returns-then-is_empty-clause-form
returns-then-is_empty-clause-form c = rw (c.is_empty.ensures.0 c.if-is_empty.true, c.new.ensures) empty_form

pub emit-requires : goal.emit-requires
emit-requires c = reduced_columns c.args.source.now _ c.in_ok-needed.ensures.columns

pub list_of-requires : goal.list_of-requires
list_of-requires c =
    subst (λ v. IsAccepted full (aces_in v)) (sym c.deref.ensures.value)
    (reduced_form c.args.source.now _ _ c.in_ok-needed.ensures.accepted c.in_ok-needed.ensures.columns
    c.in_ok-form.ensures).accepted

pub returns-clause-form : goal.returns-clause-form
returns-clause-form c =
    IfOk-weaker c.list_of.result _ (IsNormalFormOf c.args.source.now)
    (λ list is. subst (IsNormalFormOf c.args.source.now) (sym (is ∙ ap aces_in c.deref.ensures.value))
    (reduced_form c.args.source.now _ _ c.in_ok-needed.ensures.accepted c.in_ok-needed.ensures.columns
    c.in_ok-form.ensures)) c.list_of.ensures
