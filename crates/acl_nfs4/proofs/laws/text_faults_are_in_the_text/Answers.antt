use Rattle.acl_nfs4.proofs.text.AcePlaces.{text_fault_in}
use Rattle.acl_nfs4.proofs.laws.text_faults_are_in_the_text.Goals as goal

pub returns : goal.returns
returns c = text_fault_in
