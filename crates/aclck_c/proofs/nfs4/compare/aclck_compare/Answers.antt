use Rattle.std.proofs.Common.{refl}
use Rattle.aclck_c.proofs.Comparisons.{writes_names}
use Rattle.aclck_c.proofs.nfs4.compare.aclck_compare.Goals as goal

pub returns-clause-answer : goal.returns-clause-answer
returns-clause-answer c =
    writes_names refl (rw c.in-Some.ensures.value at c.compared-found.ensures.ok) c.answer_both.ensures
