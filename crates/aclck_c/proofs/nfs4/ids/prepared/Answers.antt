use Rattle.aclck_c.proofs.nfs4.ids.prepared.Goals as goal

pub returns-clause-ok : goal.returns-clause-ok
returns-clause-ok c = record {
  table = _;
  list = _;
  named = c.in_ok-table.ensures;
  spelled = c.in_ok-view.ensures.found;
  prepared = c.in_ok-prepare_ids.ensures.bytes;
}
