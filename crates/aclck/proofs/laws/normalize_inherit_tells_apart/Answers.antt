use Rattle.aclck.proofs.PathLemmas.{paths_tell}
use Rattle.aclck.proofs.laws.normalize_inherit_tells_apart.Goals as goal

pub returns : goal.returns
returns c p list other x y a b is read read_other h k = paths_tell p list other x y a b is read read_other h.1 k.1
