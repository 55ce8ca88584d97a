use Rattle.acl_normal.proofs.Common.{all_rights, IfOk, SameGrants, subst, ◌↔◌}
use Rattle.std.specs.Prelude.{IsNone}
use Rattle.acl_normal.proofs.comparison.first_difference.compare.Goals as goal

pub returns-clause-same : goal.returns-clause-same
returns-clause-same c =
    subst (λ l. IfOk c.compare_views.result (λ r. IsNone r ↔ SameGrants all_rights l c.args.second.now)) c.view.ensures
    (subst (λ l. IfOk c.compare_views.result (λ r. IsNone r ↔ SameGrants all_rights c.view.result l)) c.view-2.ensures
    c.compare_views.ensures.same)
