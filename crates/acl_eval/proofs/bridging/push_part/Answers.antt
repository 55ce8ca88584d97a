use Rattle.acl_eval.proofs.Parts.{entry_fits}
use Rattle.acl_eval.proofs.bridging.push_part.Goals as goal

pub push_entry-requires : goal.push_entry-requires
push_entry-requires c = entry_fits c.args.acl.now c.args.part c.entries-entries.result.now c.loop-entry.entry-index
    c.entry-item.result c.args.list.now c.loop-entry.list c.loop-entry-test.true c.entry-item.is
    c.entries-entries.ensures.entries c.loop-entry.invariant c.requires
