use Rattle.acl_nfs4.specs.Ace.{ace}
use Rattle.acl_to_posix.specs.internal.ListNamesBody.{relevant_id}
use Rattle.acl_to_posix.proofs.NameCounts.{least_at_end, least_more}
use Rattle.acl_to_posix.proofs.list_names.least_from.Goals as goal

pub loop-ace-preserved : goal.loop-ace-preserved
loop-ace-preserved c = let (next, finite, before) = c.loop-ace.invariant in (
  tt,
  tt,
  least_more (relevant_id c.args.kind c.args.names.now) c.args.from _ _ _ (ace c.in-Some.ace) c.loop-ace.ace-iterator
      c.next.new.self _ c.in-Some.ensures.steps.0 c.relevant_id.ensures c.lesser_id-least.ensures before,
)

pub returns : goal.returns
returns c = let (next, finite, before) = c.loop-ace.invariant in
    least_at_end (relevant_id c.args.kind c.args.names.now) c.args.from _ c.args.list.now _
    c.in-None.ensures.steps.0.0 before
