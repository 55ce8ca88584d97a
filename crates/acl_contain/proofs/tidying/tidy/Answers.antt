use Rattle.acl_contain.specs.internal.Joining.{IsTidied}
use Rattle.acl_normal.proofs.Common.{IfOk-weaker, SameGrants, all_rights, subst}
use Rattle.acl_contain.proofs.tidying.tidy.Goals as goal

pub returns-clause-same : goal.returns-clause-same
returns-clause-same c = IfOk-weaker c.tidied_view.result (IsTidied c.view.result) (SameGrants all_rights
    c.args.list.now)
    (λ list tidied. subst (λ v. SameGrants all_rights v list) c.view.ensures tidied.same) c.tidied_view.ensures
