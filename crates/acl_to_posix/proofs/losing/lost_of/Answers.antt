use Rattle.std.proofs.Common.{ap}
use Rattle.acl_posix.specs.Entries.{pair_of}
use Rattle.acl_posix.specs.Tag.{tag_of}
use Rattle.acl_to_posix.specs.internal.LossBody.{AreKeptWith, IsKeptFor, search_of}
use Rattle.acl_to_posix.proofs.losses.LossOfLists.{none_at}
use Rattle.acl_to_posix.proofs.losses.LossTags.{kept_by_all, kept_by_slices}
use Rattle.acl_to_posix.proofs.losses.UnusedIds.{all_more_left}
use Rattle.acl_to_posix.proofs.losing.lost_of.Goals.{then-denied+in_ok-lost+in_default, else-denied}
use Rattle.acl_to_posix.proofs.losing.lost_of.Goals as goal

pub loop-entry-preserved : goal.loop-entry-preserved
loop-entry-preserved c =
    let wanted = c.args.wanted.now in
    let acl = c.args.acl.now in
    let s = search_of wanted acl c.args.unused in
    let denied = c.judged_tag-denied.result in
    let tag = tag_of c.entry-item.result.tag in
    let same = ap tag_of c.judged_tag-denied.ensures.tag in
    λ rest. c.loop-entry.invariant
    (all_more_left pair_of (λ entry. IsKeptFor s entry.0) c.entries-entries.result.now c.loop-entry.entry-index
    c.entry-item.result c.loop-entry-test.true c.entry-item.is (elim c.if-denied.branch [
      | then-denied+in_ok-lost+in_default w ↦
          kept_by_slices wanted acl c.args.unused denied tag c.in_ok-firsts.firsts.items c.in_ok-seconds.seconds.items
          w.deref.result.now w.deref-then-denied.result.now c.judged_tag-denied.ensures.judged same
          c.in_ok-firsts.ensures.judged c.in_ok-firsts.ensures.tags c.in_ok-seconds.ensures.judged
          c.in_ok-seconds.ensures.tags w.deref.ensures.value w.deref-then-denied.ensures.value
          (none_at s (AreKeptWith s denied w.deref.result.now w.deref-then-denied.result.now) w.in_ok-lost.field-0
          w.in_default.not-Some w.in_ok-lost.ensures)
      | else-denied w ↦
          kept_by_all wanted acl c.args.unused denied tag c.judged_tag-denied.ensures.judged same w.if-denied.false
    ]) rest)
