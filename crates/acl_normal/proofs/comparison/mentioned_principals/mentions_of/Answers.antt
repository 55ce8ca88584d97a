use Rattle.std.proofs.Common.{refl}
use Rattle.acl_normal.proofs.comparison.MentionedWhoms.{whole_ready, whoms_ready}
use Rattle.acl_normal.proofs.comparison.mentioned_principals.mentions_of.Goals as goal

pub whoms-requires : goal.whoms-requires
whoms-requires c = whoms_ready refl refl refl c.deref-3.ensures.value c.deref-2.ensures.value
    c.in_ok-sorted.ensures.rows c.in_ok-table.ensures c.in_ok-numbers.ensures

pub returns : goal.returns
returns c = record {
  in_order = whole_ready _ c.deref-2.ensures.value c.in_ok-table.ensures c.in_ok-numbers.ensures;
  whoms = c.in_ok-whoms.ensures;
}
