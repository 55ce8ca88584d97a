use Rattle.acl_forms.proofs.PosixLemmas.{no_default_fault, one_default, one_default_fault}
use Rattle.acl_forms.proofs.posix_text_laws.one_default_text.Goals as goal

pub returns-clause-acl : goal.returns-clause-acl
returns-clause-acl c = one_default

pub returns-clause-fault : goal.returns-clause-fault
returns-clause-fault c = one_default_fault

pub returns-clause-either : goal.returns-clause-either
returns-clause-either c = no_default_fault
