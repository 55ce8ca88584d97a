use Rattle.acl_nfs4.proofs.feed.Completion.{begins, fault_begins}
use Rattle.acl_nfs4.proofs.laws.faults_break_spellings.Goals as goal

pub returns-clause-border : goal.returns-clause-border
returns-clause-border c = λ p stage text b. begins p stage text b

pub returns-clause-fault : goal.returns-clause-fault
returns-clause-fault c = λ p bytes offset r f. fault_begins p bytes offset r f
