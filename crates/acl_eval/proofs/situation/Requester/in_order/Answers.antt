use Rattle.std.proofs.Common.{ap, refl, sym, ◌∙◌, map}
use Rattle.std.proofs.lemmas.Bool.{false≢true}
use Rattle.std.specs.List.{list_any}
use Rattle.std.specs.Str.{bytes_eq}
use Rattle.acl_eval.proofs.GroupSearches.{all_among, all_found}
use Rattle.acl_eval.proofs.Members.{all_named}
use Rattle.acl_eval.proofs.situation.Requester.in_order.Goals as goal

pub returns-clause-named : goal.returns-clause-named
returns-clause-named c =
    let named = c.are_named.ensures.0 c.if-not-are_named.false in
    (λ _. (named.0, (all_named c.args.groups.now).0 named.1), λ _. refl)

pub returns-clause-rising : goal.returns-clause-rising
returns-clause-rising c = λ up name.
    ap (list_any (bytes_eq name)) c.said.ensures.groups ∙ all_found (map (λ g. g.now) c.args.groups.now) up name

pub returns-clause-within : goal.returns-clause-within
returns-clause-within c = λ name h.
    all_among (map (λ g. g.now) c.args.groups.now) name (sym (ap (list_any (bytes_eq name)) c.said.ensures.groups) ∙ h)

pub returns-then-not-are_named-clause-named : goal.returns-then-not-are_named-clause-named
returns-then-not-are_named-clause-named c = (
  λ e. absurd (false≢true e),
  λ h. sym c.if-not-are_named.true ∙ c.are_named.ensures.1 (h.0, (all_named c.args.groups.now).1 h.1),
)
