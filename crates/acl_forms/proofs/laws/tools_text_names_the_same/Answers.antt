use Rattle.acl_forms.proofs.ToolsReadBack.{same_principal, written_same}
use Rattle.acl_forms.proofs.laws.tools_text_names_the_same.Goals as goal

pub returns-clause-same : goal.returns-clause-same
returns-clause-same c = written_same

pub returns-clause-principal : goal.returns-clause-principal
returns-clause-principal c = same_principal
