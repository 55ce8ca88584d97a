use Rattle.std.proofs.Common.{refl}
use Rattle.aclck_c.proofs.Comparisons.{writes_excess}
use Rattle.aclck_c.proofs.nfs4.excess.aclck_excess.Goals as goal

pub returns-clause-answer : goal.returns-clause-answer
returns-clause-answer c =
    writes_excess refl (rw c.in-Some.ensures.value at c.exceeding-found.ensures.ok) c.answer_both.ensures
