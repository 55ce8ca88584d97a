use Rattle.acl_forms.proofs.TextLemmas.{only_fault, only_list}
use Rattle.acl_forms.specs.ToolsRules.{tools_rules}
use Rattle.acl_forms.proofs.tools.reader.read_tools.Goals as goal

pub returns-clause-only : goal.returns-clause-only
returns-clause-only c = only_list (tools_rules c.args.object) c.args.text.now c.read_text.result c.read_text.ensures

pub returns-clause-refused : goal.returns-clause-refused
returns-clause-refused c = only_fault (tools_rules c.args.object) c.args.text.now c.read_text.result c.read_text.ensures
