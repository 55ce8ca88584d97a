use Rattle.acl_posix.proofs.Common.{sym}
use Rattle.acl_posix.proofs.excess.Exceeding.{some_answer}
use Rattle.acl_posix.proofs.excess.Excess.user_excess.Goals as goal

pub returns-in_default-4-clause-none : goal.returns-in_default-4-clause-none
returns-in_default-4-clause-none g c = λ _ gs h.
    absurd (some_answer _ _ _ _ c.requires.named (sym c.in_default.ensures) (sym c.in_default.ensures'))
