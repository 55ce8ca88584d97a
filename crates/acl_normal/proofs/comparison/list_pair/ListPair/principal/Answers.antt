use Rattle.std.proofs.Common.{arith, ap, length}
use Rattle.acl_normal.proofs.comparison.list_pair.ListPair.principal.Goals as goal
use Rattle.acl_normal.proofs.comparison.MentionedWhoms.{all_there}
use Rattle.acl_normal.specs.internal.comparison.TwoLists.{all_mentioned}

pub bounds-mentioned-number : goal.bounds-mentioned-number
bounds-mentioned-number c = omega (
  arith,
  c.requires,
  all_there c.self.inside c.self.invariant,
  ap (λ both. length (all_mentioned both)) c.self.view_is,
)
