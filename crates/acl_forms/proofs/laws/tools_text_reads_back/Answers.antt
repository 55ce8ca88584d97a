use Rattle.acl_forms.proofs.ToolsReadBack.{written_reads_back}
use Rattle.acl_forms.proofs.laws.tools_text_reads_back.Goals as goal

pub returns : goal.returns
returns c = written_reads_back
