use Rattle.acl_normal.proofs.five_forms.Paths.{five_suffice}
use Rattle.acl_normal.proofs.laws.five_paths_suffice.Goals as goal

pub returns : goal.returns
returns c = five_suffice
