use Rattle.acl_forms.proofs.TextLemmas.{no_fault, one_fault, one_list}
use Rattle.acl_forms.specs.ToolsRules.{tools_rules}
use Rattle.acl_forms.proofs.laws.one_tools_text.Goals as goal

pub returns-clause-list : goal.returns-clause-list
returns-clause-list c = λ object. one_list (tools_rules object)

pub returns-clause-fault : goal.returns-clause-fault
returns-clause-fault c = λ object. one_fault (tools_rules object)

pub returns-clause-either : goal.returns-clause-either
returns-clause-either c = λ object. no_fault (tools_rules object)
