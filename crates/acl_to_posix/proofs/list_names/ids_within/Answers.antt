use Rattle.std.proofs.Common.{arith}
use Rattle.acl_nfs4.specs.Ace.{ace}
use Rattle.acl_to_posix.specs.internal.ListNamesBody.{relevant_id, names_id}
use Rattle.acl_to_posix.proofs.ListNames.{more_above, named_all, named_more}
use Rattle.acl_to_posix.proofs.list_names.ids_within.Goals as goal

pub loop-ace-preserved : goal.loop-ace-preserved
loop-ace-preserved c = let (next, finite, before, once, few) = c.loop-ace.invariant in (
  tt,
  tt,
  λ id. named_more (relevant_id c.args.kind c.args.names.now) c.loop-ace.found.items c.add.new.among.items
      (ace c.in-Some.ace) c.loop-ace.ace-iterator c.next.new.self id _ _ c.in-Some.ensures.steps.0 c.relevant_id.ensures
      (c.in_ok-add.ensures.members id) (before id),
  c.in_ok-add.ensures.once once,
  omega (arith, c.if-len-most.false, c.len.ensures),
)

pub returns-then-len-most-clause-fault : goal.returns-then-len-most-clause-fault
returns-then-len-most-clause-fault c = let (next, finite, before, once, few) = c.loop-ace.invariant in
    more_above c.args.most (relevant_id c.args.kind c.args.names.now) c.add.new.among.items c.next.new.self
    (names_id c.args.kind c.args.names.now c.args.list.now) (c.in_ok-add.ensures.once once)
    (λ id. named_more (relevant_id c.args.kind c.args.names.now) c.loop-ace.found.items c.add.new.among.items
    (ace c.in-Some.ace) c.loop-ace.ace-iterator c.next.new.self id _ _ c.in-Some.ensures.steps.0 c.relevant_id.ensures
    (c.in_ok-add.ensures.members id) (before id)) (omega (arith, c.if-len-most.true, c.len.ensures))

pub returns-clause-named : goal.returns-clause-named
returns-clause-named c = let (next, finite, before, once, few) = c.loop-ace.invariant in record {
  members = λ id. named_all (relevant_id c.args.kind c.args.names.now) c.loop-ace.found.items c.loop-ace.ace-iterator
      id _ c.in-None.ensures.steps.0.0 (before id);
  once = once;
}
