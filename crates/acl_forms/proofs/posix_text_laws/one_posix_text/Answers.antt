use Rattle.acl_forms.proofs.PosixLemmas.{no_fault, one_fault, one_file}
use Rattle.acl_forms.proofs.posix_text_laws.one_posix_text.Goals as goal

pub returns-clause-file : goal.returns-clause-file
returns-clause-file c = one_file

pub returns-clause-fault : goal.returns-clause-fault
returns-clause-fault c = one_fault

pub returns-clause-either : goal.returns-clause-either
returns-clause-either c = no_fault
