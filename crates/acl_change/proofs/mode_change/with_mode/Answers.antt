use Rattle.std.proofs.Common.{subst, sym, ◌∙◌}
use Rattle.acl_perm.specs.Profile.{full}
use Rattle.acl_nfs4.specs.Ace.{ace}
use Rattle.acl_nfs4.specs.Spelling.{IsAccepted}
use Rattle.acl_change.proofs.ListChmod.{owner_fits, way_begins, way_ends, way_fits, way_on}
use Rattle.acl_change.proofs.mode_change.with_mode.Goals as goal

pub push_to-requires : goal.push_to-requires
push_to-requires c = owner_fits c.args.mode.bits c.args.list.now c.new-changed.ensures c.owner_aces.ensures c.requires

pub loop-ace-init : goal.loop-ace-init
loop-ace-init c = (
  tt,
  tt,
  way_begins c.args.mode.bits c.new-changed.ensures c.in_ok-push_to.ensures c.owner_aces.ensures
      (c.into_iter-ace-iterator.ensures.into_iter_gives ∙ c.aces-ace-items.ensures.same),
)

pub push_to-requires-in-loop-ace : goal.push_to-requires-in-loop-ace
push_to-requires-in-loop-ace c = way_fits (ace c.in-Some.ace) c.next.new.self c.in-Some.ensures.steps.0
    c.after_chmod.ensures c.loop-ace.invariant.2 c.requires

pub loop-ace-preserved : goal.loop-ace-preserved
loop-ace-preserved c = (
  tt,
  tt,
  way_on (ace c.in-Some.ace) c.next.new.self c.in-Some.ensures.steps.0 c.after_chmod.ensures
      c.in_ok-push_to-2.ensures c.loop-ace.invariant.2,
)

pub push_to-requires-2 : goal.push_to-requires-2
push_to-requires-2 c = subst (IsAccepted full)
    (sym (way_ends c.in-None.ensures.steps.0.0 c.other_aces.ensures c.loop-ace.invariant.2)) c.requires

pub returns : goal.returns
returns c = c.in_ok-push_to-3.ensures
    ∙ way_ends c.in-None.ensures.steps.0.0 c.other_aces.ensures c.loop-ace.invariant.2
