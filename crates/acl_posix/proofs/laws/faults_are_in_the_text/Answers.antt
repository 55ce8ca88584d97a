use Rattle.acl_posix.proofs.reader.Places.{cause_in, text_fault_in}
use Rattle.acl_posix.proofs.laws.faults_are_in_the_text.Goals as goal

pub returns : goal.returns
returns c = record { text = text_fault_in; entries = cause_in }
