use Rattle.acl_normal.proofs.comparison.FirstPlaceLemmas.{whoms_length}
use Rattle.acl_normal.proofs.comparison.list_pair.ListPair.granted_by_second.Goals as goal
use Rattle.acl_normal.specs.internal.comparison.SetSearch.{principals}

pub granted_to-requires : goal.granted_to-requires
granted_to-requires c = whoms_length (principals c.self.inside.mentioned.now) _ _ c.self.invariant.second_whoms
