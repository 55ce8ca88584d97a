use Rattle.acl_normal.proofs.Common.{aces_with, Ace, all_rights, ap, emitted_aces, full, IfOk-weaker, IsAccepted, IsNormal, IsNormalFormOf, IsReducedOf, List, SameGrants, subst, sym, ◌∙◌, ◌≡◌}
use Rattle.acl_normal.proofs.emit.Risen.{rising_form_of}
use Rattle.acl_normal.proofs.unique.Taken.{form_of_reduced}
use Rattle.acl_normal.proofs.normal_form.long_form.Goals as goal

pub cleared-requires-clause-accepted : goal.cleared-requires-clause-accepted
cleared-requires-clause-accepted c =
    let xs = aces_with c.as_slice-aces.result.now c.as_slice-masks.result.now in
    let reduced : IsReducedOf c.args.list.now xs =
    rw (c.as_slice-aces.ensures.value, c.as_slice-masks.ensures.value) c.in_ok-reduced.ensures.left in
    (rising_form_of c.args.list.now xs reduced (c.rises.ensures c.if-rises.true)).accepted

pub returns-then-rises : goal.returns-then-rises
returns-then-rises c =
    let xs = aces_with c.as_slice-aces.result.now c.as_slice-masks.result.now in
    let reduced : IsReducedOf c.args.list.now xs =
    rw (c.as_slice-aces.ensures.value, c.as_slice-masks.ensures.value) c.in_ok-reduced.ensures.left in
    IfOk-weaker c.cleared.result _ (IsNormalFormOf c.args.list.now)
    (λ form is. subst (IsNormalFormOf c.args.list.now) (sym is)
    (rising_form_of c.args.list.now xs reduced (c.rises.ensures c.if-rises.true))) c.cleared.ensures

-- what was emitted is the normal form
form_of_emitted : {list xs rows ns : List Ace} → IsReducedOf list xs → rows ≡ xs → IsNormal ns
    → SameGrants all_rights rows ns → IsNormalFormOf list ns
form_of_emitted {list} {xs} {rows} {ns} reduced is normal grants =
    form_of_reduced list xs ns reduced normal (subst (λ v. SameGrants all_rights v ns) is grants)

pub written-requires : goal.written-requires
written-requires c =
    let f = c.in_ok-form.ensures in
    subst (λ v. IsAccepted full (emitted_aces v)) (sym c.deref-2.ensures.value)
    (form_of_emitted c.in_ok-reduced.ensures.left c.in_ok-rows.ensures f.normal f.grants).accepted

pub returns : goal.returns
returns c =
    let list = c.args.list.now in
    let f = c.in_ok-form.ensures in
    IfOk-weaker c.written.result _ (λ form. IsNormalFormOf list form)
    (λ form e. subst (IsNormalFormOf list) (sym (e ∙ ap emitted_aces c.deref-2.ensures.value))
    (form_of_emitted c.in_ok-reduced.ensures.left c.in_ok-rows.ensures f.normal f.grants)) c.written.ensures
