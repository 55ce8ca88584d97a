use Rattle.aclck.proofs.PathLemmas.{forms_own}
use Rattle.aclck.proofs.laws.normalize_inherit_gives_forms.Goals as goal

pub returns : goal.returns
returns c p x a is h = forms_own p x a is h.1
