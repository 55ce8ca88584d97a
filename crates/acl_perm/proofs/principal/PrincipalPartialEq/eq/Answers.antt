use Rattle.std.proofs.Common.{◌∙◌, sym}
use Rattle.acl_perm.specs.Principal.{principal}
use Rattle.acl_perm.proofs.Orders.{tied_names}
use Rattle.acl_perm.proofs.principal.PrincipalPartialEq.eq.Goals as goal

pub returns-then-rank-clause-value : goal.returns-then-rank-clause-value
returns-then-rank-clause-value c =
    tied_names (principal c.args.self.now) (principal c.args.other.now) c.eq.result
    (sym c.rank.ensures ∙ c.if-rank.true ∙ c.rank-2.ensures)
    (rw (c.name.ensures, c.name-then-rank.ensures) at c.eq.ensures)
