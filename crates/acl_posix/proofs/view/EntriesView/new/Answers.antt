use Rattle.acl_posix.proofs.Common.{refl}
use Rattle.acl_posix.specs.RawEntries.{raw_pairs}
use Rattle.acl_posix.proofs.sorted.Lists.{entries_in_order}
use Rattle.acl_posix.proofs.view.Views.{sorted_goes}
use Rattle.acl_posix.proofs.view.EntriesView.new.Goals as goal

pub returns-in-Some-clause-accepts : goal.returns-in-Some-clause-accepts
returns-in-Some-clause-accepts c = λ canonical.
    let stop = c.in-Some.ensures.some in
    absurd (sorted_goes (raw_pairs c.args.raws.now) c.in-Some.place canonical.in_order.sorted stop.in_range stop.stop)

pub returns-in-None-clause-places : goal.returns-in-None-clause-places
returns-in-None-clause-places c = entries_in_order (raw_pairs c.args.raws.now) (c.in_default.ensures.none refl)
