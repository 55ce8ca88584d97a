use Rattle.acl_normal.proofs.Common.{all_rights, equivalence}
use Rattle.acl_normal.proofs.unique.SameOrder.{same_bits}
use Rattle.acl_normal.proofs.laws.same_bits.Goals as goal

pub returns : goal.returns
returns c = λ xs ys hx hy same b e. (
  same_bits xs ys hx hy same b e,
  same_bits ys xs hy hx ((equivalence all_rights).symmetric xs ys same) b e,
)
