use Rattle.acl_normal.proofs.Common.{IsAccepted, [], aces_in, ap, full, mentioned, principals, subst, ◌∙◌}
use Rattle.acl_contain.proofs.QuestionLemmas.{all_named, questions_are}
use Rattle.acl_contain.proofs.asking.questions.Goals as goal

pub returns-clause-requester : goal.returns-clause-requester
returns-clause-requester c = all_named c.args.list.now c.in_ok-questions_about.field-0.items
    (subst (IsAccepted full) c.view.ensures c.in_ok-aces.ensures.accepted)
    (c.in_ok-questions_about.ensures ∙ questions_are c.args.list.now (principals c.deref-3.result.now)
    (ap principals c.deref-3.ensures.value ∙ c.in_ok-mentions.ensures.in_order
    ∙ ap (λ v. mentioned v []) (ap aces_in c.deref.ensures.value ∙ c.in_ok-aces.ensures.aces ∙ c.view.ensures)))
