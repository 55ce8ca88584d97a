use Rattle.acl_contain.proofs.joins.Whole.{plain_by, tidied_by}
use Rattle.acl_contain.specs.internal.Joining.{IsTidied}
use Rattle.acl_normal.proofs.Common.{IfOk-weaker, IsAccepted, ace, aces_in, aces_with, ap, full, left, length-map, subst, sym, ◌∙◌, ◌≡◌}
use Rattle.acl_normal.specs.internal.emit.Rising.{all_cleared}
use Rattle.acl_contain.proofs.tidying.tidied_view.Goals as goal

pub joined-requires : goal.joined-requires
joined-requires c =
    let reduced = c.in_ok-reduced.reduced in
    plain_by reduced.aces.items reduced.masks.items c.in_ok-reduced.ensures.left
    (ap aces_in c.deref-3.ensures.value ∙ c.in_ok-aces.ensures
    ∙ ap (λ v. all_cleared (left (aces_with v c.deref-2.result.now))) c.deref.ensures.value
    ∙ ap (λ v. all_cleared (left (aces_with reduced.aces.items v))) c.deref-2.ensures.value)

pub written-requires : goal.written-requires
written-requires c =
    let reduced = c.in_ok-reduced.reduced in
    subst (IsAccepted full) (sym (ap aces_in c.deref-4.ensures.value))
    (tidied_by reduced.aces.items reduced.masks.items c.in_ok-reduced.ensures.left
    (ap aces_in c.deref-3.ensures.value ∙ c.in_ok-aces.ensures
    ∙ ap (λ v. all_cleared (left (aces_with v c.deref-2.result.now))) c.deref.ensures.value
    ∙ ap (λ v. all_cleared (left (aces_with reduced.aces.items v))) c.deref-2.ensures.value)
    (sym (length-map c.deref-3.result.now ace)) c.in_ok-kept.ensures).accepted

pub returns : goal.returns
returns c =
    let reduced = c.in_ok-reduced.reduced in
    let tidied = tidied_by reduced.aces.items reduced.masks.items c.in_ok-reduced.ensures.left
    (ap aces_in c.deref-3.ensures.value ∙ c.in_ok-aces.ensures
    ∙ ap (λ v. all_cleared (left (aces_with v c.deref-2.result.now))) c.deref.ensures.value
    ∙ ap (λ v. all_cleared (left (aces_with reduced.aces.items v))) c.deref-2.ensures.value)
    (sym (length-map c.deref-3.result.now ace)) c.in_ok-kept.ensures in
    IfOk-weaker c.written.result (λ list. list ≡ aces_in c.deref-4.result.now) (IsTidied c.args.list.now)
    (λ list is. subst (IsTidied c.args.list.now) (sym (is ∙ ap aces_in c.deref-4.ensures.value)) tidied)
    c.written.ensures
