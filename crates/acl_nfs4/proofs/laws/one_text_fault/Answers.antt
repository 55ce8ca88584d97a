use Rattle.acl_nfs4.proofs.text.AceLines.{no_text_fault, one_text_fault}
use Rattle.acl_nfs4.proofs.laws.one_text_fault.Goals as goal

pub returns-clause-one : goal.returns-clause-one
returns-clause-one c = one_text_fault

pub returns-clause-none : goal.returns-clause-none
returns-clause-none c = no_text_fault
