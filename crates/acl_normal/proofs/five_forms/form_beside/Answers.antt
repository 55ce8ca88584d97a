use Rattle.acl_normal.proofs.Common.{IsNormalFormOf, subst, sym}
use Rattle.acl_normal.proofs.five_forms.form_beside.Goals as goal

pub returns-in_ok-form : goal.returns-in_ok-form
returns-in_ok-form c =
    let other = subst (λ list. IsNormalFormOf list c.args.other_form.now) (sym (c.eq.ensures.exact.0 c.if-eq.true))
    c.requires in
    subst (IsNormalFormOf c.args.list.now) (sym c.in_ok-form.ensures) other
