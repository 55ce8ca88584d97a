use Rattle.acl_posix.proofs.Common.{arith, tag_of}
use Rattle.acl_posix.proofs.sorted.Lists.{entries_of, inserted, keys_length, not_in_gap, present_at}
use Rattle.acl_posix.proofs.sorted.SortedEntries.insert.Goals as goal

pub set-requires : goal.set-requires
set-requires c = present_at c.args.self.now (tag_of c.args.tag) c.in-Ok.field-0 c.in-Ok.ensures

pub insert-requires : goal.insert-requires
insert-requires c =
    let same = entries_of c.args.self.now c.self.inside.items.items c.self.view_is c.self.invariant in
    omega (arith, c.in-Err.ensures.in_range, keys_length c.args.self.now c.self.inside.items.items same)

pub returns-in_err-insert-in-Err-clause-no_memory : goal.returns-in_err-insert-in-Err-clause-no_memory
returns-in_err-insert-in-Err-clause-no_memory c = λ some.
    absurd (not_in_gap c.args.self.now (tag_of c.args.tag) c.in-Err.place c.in-Err.ensures some)

pub invariant_of-self-in-Err : goal.invariant_of-self-in-Err
invariant_of-self-in-Err c = rw c.in_ok-insert-in-Err.ensures.items
    (inserted c.args.self.now c.self.inside.items.items c.in-Err.place _ c.self.view_is c.self.invariant
    c.in-Err.ensures).sorted

pub returns-in_ok-insert-in-Err-clause-ok : goal.returns-in_ok-insert-in-Err-clause-ok
returns-in_ok-insert-in-Err-clause-ok c = rw c.in_ok-insert-in-Err.ensures.items
    (inserted c.args.self.now c.self.inside.items.items c.in-Err.place _ c.self.view_is c.self.invariant
    c.in-Err.ensures).set
