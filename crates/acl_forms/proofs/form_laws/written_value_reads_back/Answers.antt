use Rattle.acl_forms.proofs.FormsReadBack.{reads_back}
use Rattle.acl_forms.proofs.form_laws.written_value_reads_back.Goals as goal

pub returns : goal.returns
returns c = reads_back
