use Rattle.acl_normal.proofs.Common.{all_rights, equivalence}
use Rattle.acl_normal.proofs.unique.SameOrder.{same_order}
use Rattle.acl_normal.proofs.laws.same_order.Goals as goal

pub returns : goal.returns
returns c = λ xs ys hx hy same b e f clash. (
  same_order xs ys hx hy same b e f clash,
  same_order ys xs hy hx ((equivalence all_rights).symmetric xs ys same) b e f clash,
)
