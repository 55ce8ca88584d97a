use Rattle.acl_posix.proofs.Common.{sym, ◌∙◌}
use Rattle.acl_posix.proofs.sorted.Equality.{set_decides, by_lists}
use Rattle.acl_posix.proofs.acl.PosixAclPartialEq.eq.Goals as goal

pub returns-clause-value : goal.returns-clause-value
returns-clause-value c =
    by_lists c.args.self.now c.args.other.now c.entries.ensures.entries c.entries-2.ensures.entries c.are_same.ensures

pub returns-clause-exact : goal.returns-clause-exact
returns-clause-exact c =
    let is = returns-clause-value c in
    let decides = set_decides c.args.self.now c.args.other.now in
    (λ h. decides.0 (sym is ∙ h), λ e. is ∙ decides.1 e)
