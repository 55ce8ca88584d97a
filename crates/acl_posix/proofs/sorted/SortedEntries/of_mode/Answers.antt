use Rattle.acl_posix.proofs.Common.{Entry, IsSorted, List, pairs, subst, sym}
use Rattle.acl_posix.proofs.sorted.OneEntry.{three_sorted}
use Rattle.acl_posix.proofs.sorted.SortedEntries.of_mode.Goals as goal

pub invariant_of-result : goal.invariant_of-result
invariant_of-result c = subst (λ (es : List Entry). IsSorted (pairs es)) (sym c.in_ok-items.ensures.items)
    (three_sorted c.owner.result.bits c.group.result.bits c.others.result.bits)
