use Rattle.acl_posix.proofs.Common.{arith, tag_of}
use Rattle.acl_posix.proofs.sorted.Lists.{edited, entries_of, keys_length, not_in_gap}
use Rattle.acl_posix.proofs.sorted.SortedEntries.set.Goals as goal

pub index_mut-requires : goal.index_mut-requires
index_mut-requires c =
    let same = entries_of c.args.self.now c.self.inside.items.items c.self.view_is c.self.invariant in
    omega (arith, c.in-Ok.ensures.in_range, keys_length c.args.self.now c.self.inside.items.items same)

pub invariant_of-self : goal.invariant_of-self
invariant_of-self c = (edited c.args.self.now c.self.inside.items.items c.in-Ok.place _ c.self.view_is c.self.invariant
    c.in-Ok.ensures).sorted

pub returns-in-Ok : goal.returns-in-Ok
returns-in-Ok c = (edited c.args.self.now c.self.inside.items.items c.in-Ok.place _ c.self.view_is c.self.invariant
    c.in-Ok.ensures).set

pub returns-in-Err : goal.returns-in-Err
returns-in-Err c = absurd (not_in_gap c.args.self.now (tag_of c.args.tag) c.in-Err.field-0 c.in-Err.ensures c.requires)
