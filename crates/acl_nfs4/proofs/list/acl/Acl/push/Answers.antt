use Rattle.acl_nfs4.specs.Ace.{ace}
use Rattle.acl_nfs4.proofs.list.Push.{push_passes}
use Rattle.acl_nfs4.proofs.list.acl.Acl.push.Goals as goal

pub returns-in_err-judge_next-clause-only : goal.returns-in_err-judge_next-clause-only
returns-in_err-judge_next-clause-only c = λ ok. push_passes c.args.self.now (ace c.args.item) ok
