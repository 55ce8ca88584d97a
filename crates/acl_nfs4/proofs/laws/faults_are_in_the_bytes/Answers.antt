use Rattle.acl_nfs4.proofs.xdr.Places.{first_fault_in, refusal_in, whole_fault_in}
use Rattle.acl_nfs4.proofs.laws.faults_are_in_the_bytes.Goals as goal

pub returns : goal.returns
returns c = record { first = first_fault_in; whole = whole_fault_in; stream = refusal_in }
