use Rattle.aclck.proofs.ListTextLemmas.{shown_encoded}
use Rattle.aclck.proofs.laws.show_undoes_encode.Goals as goal

pub returns : goal.returns
returns c = shown_encoded
