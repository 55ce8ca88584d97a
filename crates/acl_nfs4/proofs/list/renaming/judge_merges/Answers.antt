use Rattle.acl_nfs4.proofs.Common.{ace}
use Rattle.acl_nfs4.specs.Renamed.{is_of_group, who_by}
use Rattle.acl_nfs4.specs.internal.NameMap.{name_for}
use Rattle.acl_nfs4.proofs.list.NameMaps.{put_as, tested}
use Rattle.acl_nfs4.proofs.list.MergedNames.{judging_more, judging_stops}
use Rattle.acl_nfs4.proofs.list.renaming.judge_merges.Goals as goal

pub returns-then-is_another-clause-fault : goal.returns-then-is_another-clause-fault
returns-then-is_another-clause-fault c =
    judging_stops (name_for c.args.names.now) (name_for c.loop-ace.old_names) c.loop-ace.place c.loop-ace.ace-iterator
    c.args.aces c.next.new.self (ace c.in-Some.ace) c.loop-ace.invariant.2 c.in-Some.ensures.steps.0
    (tested (name_for c.loop-ace.old_names) c.is_group.result (is_of_group (ace c.in-Some.ace)) c.who-new.result.now
    (who_by (name_for c.args.names.now) (ace c.in-Some.ace)) c.in-Some.ace.who.now c.is_another.result _
    c.is_group.ensures c.who-new.ensures c.is_another.ensures c.if-is_another.true)

pub loop-ace-preserved : goal.loop-ace-preserved
loop-ace-preserved c = (
  tt,
  tt,
  judging_more (name_for c.args.names.now) (name_for c.loop-ace.old_names) (name_for c.insert.new.self) c.loop-ace.place
      c.loop-ace.ace-iterator c.args.aces c.next.new.self (ace c.in-Some.ace) c.loop-ace.invariant.2
      c.in-Some.ensures.steps.0
      (tested (name_for c.loop-ace.old_names) c.is_group.result (is_of_group (ace c.in-Some.ace)) c.who-new.result.now
      (who_by (name_for c.args.names.now) (ace c.in-Some.ace)) c.in-Some.ace.who.now c.is_another.result _
      c.is_group.ensures c.who-new.ensures c.is_another.ensures c.if-is_another.false)
      (put_as (name_for c.insert.new.self) (name_for c.loop-ace.old_names) c.is_group-in-loop-ace.result
      (is_of_group (ace c.in-Some.ace)) c.who-new.result.now
      (who_by (name_for c.args.names.now) (ace c.in-Some.ace)) c.in-Some.ace.who.now c.is_group-in-loop-ace.ensures
      c.who-new.ensures c.in_ok-insert.ensures),
)
