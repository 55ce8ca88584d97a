use Rattle.acl_eval.proofs.Deciders.{granted_is}
use Rattle.acl_eval.proofs.Same.{grant_one}
use Rattle.acl_eval.proofs.laws.one_right.Goals as goal

pub returns-clause-alone : goal.returns-clause-alone
returns-clause-alone c = grant_one

pub returns-clause-decided : goal.returns-clause-decided
returns-clause-decided c = granted_is
