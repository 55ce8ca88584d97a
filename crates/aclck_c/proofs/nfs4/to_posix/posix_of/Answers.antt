use Rattle.acl_ids.specs.Ids.{with_ids}
use Rattle.aclck_c.proofs.PosixConversions.{few_groups, loses_by}
use Rattle.aclck_c.proofs.nfs4.to_posix.posix_of.Goals as goal

pub loss_of-requires : goal.loss_of-requires
loss_of-requires c = record {
  few = few_groups (with_ids c.in_ok-table.table c.in_ok-list.list) c.in_ok-made.made.acl c.in_ok-made.made.lost
      c.in_ok-made.ensures.lost;
}

pub returns-clause-ok : goal.returns-clause-ok
returns-clause-ok c =
    let made = c.in_ok-made.made in
    record {
      table = c.in_ok-table.table;
      list = c.in_ok-list.list;
      acl = made.acl;
      named = c.in_ok-table.ensures;
      spelled = c.in_ok-list.ensures.found;
      few = c.in_ok-made.ensures.few;
      rule = c.in_ok-made.ensures.rule;
      sound = c.in_ok-made.ensures.sound;
      lost = loses_by (with_ids c.in_ok-table.table c.in_ok-list.list) made.acl made.lost c.loss_of.result
          c.in_ok-made.ensures.lost c.in_ok-made.ensures.exact c.loss_of.ensures;
      is = c.in_ok-raws_of.ensures;
    }
