use Rattle.std.proofs.Common.{lit<}
use Rattle.aclck.proofs.NameLemmas.{rsplit_is}
use Rattle.aclck.specs.NameWords.{equals_sign}
use Rattle.aclck.proofs.words.names.last_cut.Goals as goal

pub returns : goal.returns
returns c = rsplit_is equals_sign c.args.word.now c.rsplit_once.result c.rsplit_once.ensures.cases (lit< tt)
