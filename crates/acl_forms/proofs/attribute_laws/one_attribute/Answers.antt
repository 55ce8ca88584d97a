use Rattle.acl_forms.proofs.AttributeLemmas.{no_fault, SpellsAttribute-unique, one_fault, written_spells}
use Rattle.acl_forms.proofs.attribute_laws.one_attribute.Goals as goal

pub returns-clause-written : goal.returns-clause-written
returns-clause-written c = written_spells

pub returns-clause-list : goal.returns-clause-list
returns-clause-list c = SpellsAttribute-unique

pub returns-clause-fault : goal.returns-clause-fault
returns-clause-fault c = one_fault

pub returns-clause-either : goal.returns-clause-either
returns-clause-either c = no_fault
