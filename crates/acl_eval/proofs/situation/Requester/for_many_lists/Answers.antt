use Rattle.std.proofs.Common.{refl, sym, ◌∙◌}
use Rattle.std.proofs.lemmas.Bool.{false≢true}
use Rattle.acl_eval.proofs.Members.{all_named}
use Rattle.acl_eval.proofs.situation.Requester.for_many_lists.Goals as goal

pub returns-then-are_named-clause-named : goal.returns-then-are_named-clause-named
returns-then-are_named-clause-named c =
    let named = c.are_named.ensures.0 c.if-are_named.true in
    (λ _. (named.0, (all_named c.args.groups.now).0 named.1), λ _. refl)

pub returns-else-are_named-clause-named : goal.returns-else-are_named-clause-named
returns-else-are_named-clause-named c = (
  λ e. absurd (false≢true e),
  λ h. sym c.if-are_named.false ∙ c.are_named.ensures.1 (h.0, (all_named c.args.groups.now).1 h.1),
)
