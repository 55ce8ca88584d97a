use Rattle.acl_posix.proofs.Common.{ap, Entry, IsSorted, List, pairs, subst, sym, ◌∙◌}
use Rattle.acl_posix.proofs.sorted.Lists.{all_entries, entries_of}
use Rattle.acl_posix.proofs.sorted.SortedEntries.as_slice.Goals as goal

pub returns : goal.returns
returns c = record {
  entries = ap pairs c.deref.ensures.value
      ∙ entries_of c.args.self.now c.self.inside.items.items c.self.view_is c.self.invariant;
  sorted = subst (λ (es : List Entry). IsSorted (pairs es)) (sym c.deref.ensures.value) c.self.invariant;
  within = all_entries _;
}
