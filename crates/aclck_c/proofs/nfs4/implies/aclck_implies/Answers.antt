use Rattle.std.proofs.Common.{refl}
use Rattle.aclck_c.proofs.Comparisons.{writes_implication}
use Rattle.aclck_c.proofs.nfs4.implies.aclck_implies.Goals as goal

pub returns-clause-answer : goal.returns-clause-answer
returns-clause-answer c = writes_implication c.in-Some.ensures.right refl
    (rw c.in-Some.ensures.others at (rw c.in-Some.ensures.profile at c.found_in-found.ensures.ok)) c.answer_both.ensures
