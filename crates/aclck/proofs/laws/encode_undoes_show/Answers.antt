use Rattle.aclck.proofs.ListTextLemmas.{encode_shown}
use Rattle.aclck.proofs.laws.encode_undoes_show.Goals as goal

pub returns : goal.returns
returns c = encode_shown
