use Rattle.acl_normal.proofs.Common.{IfOk, subst, ◌↔◌}
use Rattle.std.specs.Prelude.{IsNone}
use Rattle.acl_contain.specs.Implied.{Implies}
use Rattle.acl_contain.proofs.implying.implies.Goals as goal

pub returns-clause-implied : goal.returns-clause-implied
returns-clause-implied c =
    subst (λ l. IfOk c.implies_of_view.result (λ r. IsNone r ↔ Implies l c.args.right.bit c.args.others.bits))
    c.view.ensures c.implies_of_view.ensures.implied
