use Rattle.std.proofs.Common.{◌+◌, [], drop}
use Rattle.std.specs.Prelude.{map}
use Rattle.acl_nfs4.specs.Ace.{ace}
use Rattle.acl_eval.specs.Situation.{situation}
use Rattle.acl_decide.specs.internal.UnknownBody.{noting}
use Rattle.acl_decide.proofs.UnknownMasks.{noted_none}
use Rattle.acl_decide.proofs.Assignments.{possible_end, possible_first, possible_next}
use Rattle.acl_decide.proofs.rights_with_unknown.possible_answers.Goals as goal

pub loop-item-init : goal.loop-item-init
loop-item-init c = (
  [],
  noted_none c.new-names.result c.new-names.ensures.empty,
  λ bit k. possible_first c.new-possible.result c.args.mask.bits (map ace c.args.aces.now)
      (situation c.args.matcher.now.object c.args.matcher.now.requester) bit k
      c.new-possible.ensures.allow c.new-possible.ensures.deny c.new-possible.ensures.left,
)

pub loop-item-preserved : goal.loop-item-preserved
loop-item-preserved c = let (earlier, noted, before) = c.loop-item.invariant in (
  noting earlier (ace c.item-item.result),
  c.in_ok-had.ensures.noted earlier noted,
  λ bit k. possible_next c.args.aces.now c.loop-item.item-index c.item-item.result c.loop-item.possible
      c.after-possible.result earlier (situation c.args.matcher.now.object c.args.matcher.now.requester) bit k _
      c.loop-item-test.true c.item-item.is (c.after-possible.ensures earlier
      (map ace (drop (c.loop-item.item-index + 1) c.args.aces.now)) bit k (c.in_ok-had.ensures.had earlier noted)) (before bit k),
)

pub returns : goal.returns
returns c = λ bit k. let (earlier, noted, before) = c.loop-item.invariant in
    possible_end c.args.aces.now c.loop-item.item-index c.loop-item.possible
    earlier (situation c.args.matcher.now.object c.args.matcher.now.requester) bit k _
    c.loop-item-test.false (before bit k)
