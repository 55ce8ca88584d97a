use Rattle.acl_contain.proofs.AskedSets.{each_asked, few_asked}
use Rattle.acl_contain.proofs.QuestionLemmas.{questions_decide}
use Rattle.acl_contain.proofs.laws.questions_suffice.Goals as goal

pub returns-clause-same : goal.returns-clause-same
returns-clause-same c = questions_decide c.small_situations_suffice.ensures.any

pub returns-clause-sets : goal.returns-clause-sets
returns-clause-sets c = each_asked

pub returns-clause-few : goal.returns-clause-few
returns-clause-few c = few_asked
