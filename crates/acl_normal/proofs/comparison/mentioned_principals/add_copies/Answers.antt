use Rattle.std.proofs.Common.{arith}
use Rattle.acl_normal.proofs.comparison.SamePlacesLemmas.{copies_long}
use Rattle.acl_normal.proofs.comparison.mentioned_principals.add_copies.Goals as goal

pub index-whom-requires : goal.index-whom-requires
index-whom-requires c = omega (
  arith,
  c.requires c.loop-place.place-index c.loop-place-test.true,
  copies_long _ _ c.loop-place.invariant,
)
