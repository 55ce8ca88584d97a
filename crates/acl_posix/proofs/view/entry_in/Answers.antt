use Rattle.acl_posix.proofs.raw_list.RawLists.{not_wrong}
use Rattle.acl_posix.proofs.view.entry_in.Goals as goal

pub unreachable-requires : goal.unreachable-requires
unreachable-requires c =
    not_wrong c.args.raws.now c.args.place _ _ c.requires.in_range c.requires.entries c.in-Err.ensures.fault
