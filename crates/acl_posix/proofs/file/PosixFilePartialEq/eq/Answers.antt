use Rattle.acl_posix.proofs.Common.{rules, sym, ◌∙◌}
use Rattle.acl_posix.proofs.sorted.Equality.{file_decides}
use Rattle.acl_posix.proofs.file.PosixFilePartialEq.eq.Goals as goal

pub returns-then-eq-clause-value : goal.returns-then-eq-clause-value
returns-then-eq-clause-value c = search rules

pub returns-then-eq-clause-exact : goal.returns-then-eq-clause-exact
returns-then-eq-clause-exact c =
    let is = returns-then-eq-clause-value c in
    let decides = file_decides c.args.self.now c.args.other.now in
    (λ h. decides.0 (sym is ∙ h), λ e. is ∙ decides.1 e)
