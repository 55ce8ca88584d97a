-- What the fields of what is compared are to the two lists (this library's own).
use Rattle.std.specs.Prelude.{◌≡◌}
use Rattle.acl_normal.specs.internal.Shown.{aces_in}
use Rattle.acl_normal.specs.internal.comparison.FirstPlaces.{AreWhoms}
use Rattle.acl_normal.specs.internal.comparison.RightsApart.{AreApart}
use Rattle.acl_normal.specs.internal.comparison.SetSearch.{principals}
use Rattle.acl_normal.specs.internal.comparison.TwoLists.{TwoLists, all_mentioned, two_lists}
use Rattle.acl_normal.specs.declared.comparison.list_pair.ListPair.TheInside.{Inside}

-- the lists that are held, and the direction in which they are compared
abbrev pub lists_in : Inside → TwoLists
lists_in c = two_lists c.direction (aces_in c.first.now) (aces_in c.second.now)

-- the principals are those that the lists mention, whom each ACE names of these is known, and past some rights the
-- lists have the same ACEs
pub record IsListPair (c : Inside) : Type 0 where
  pub mentioned : principals c.mentioned.now ≡ all_mentioned (lists_in c)
  pub first_whoms : AreWhoms (principals c.mentioned.now) (aces_in c.first.now) c.first_whoms.now
  pub second_whoms : AreWhoms (principals c.mentioned.now) (aces_in c.second.now) c.second_whoms.now
  pub apart : AreApart (aces_in c.first.now) (aces_in c.second.now) c.apart.bits
