use Rattle.acl_normal.proofs.Common.{all_rights, IfOk, subst, ◌↔◌}
use Rattle.std.specs.Prelude.{IsNone}
use Rattle.acl_eval.specs.Grant.{GrantsAtMost}
use Rattle.acl_contain.proofs.exceeding.excess.Goals as goal

pub returns-clause-contained : goal.returns-clause-contained
returns-clause-contained c =
    subst (λ l. IfOk c.excess_of_views.result (λ r. IsNone r ↔ GrantsAtMost all_rights l c.args.second.now))
    c.view.ensures
    (subst (λ l. IfOk c.excess_of_views.result (λ r. IsNone r ↔ GrantsAtMost all_rights c.view.result l))
    c.view-2.ensures c.excess_of_views.ensures.contained)
