use Rattle.acl_normal.proofs.unique.Unique.{normal_unique}
use Rattle.acl_normal.proofs.laws.one_normal_form.Goals as goal

pub returns : goal.returns
returns c = normal_unique
