use Rattle.std.proofs.Common.{sym}
use Rattle.acl_decide.proofs.NameNumbers.{has_number}
use Rattle.acl_decide.proofs.out_names.OutNames.add.Goals as goal

pub returns-in_default-clause-more : goal.returns-in_default-clause-more
returns-in_default-clause-more c = λ aces is named.
    absurd (has_number aces c.args.self.now c.args.who.now is named (sym c.in_default.ensures.value))
