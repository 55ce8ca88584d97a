use Rattle.aclck.proofs.ShowLemmas.{by_text}
use Rattle.aclck.proofs.laws.show_posix_tells_apart.Goals as goal

pub returns : goal.returns
returns c = by_text
