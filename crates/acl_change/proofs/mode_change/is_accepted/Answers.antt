use Rattle.std.proofs.Common.{arith, sym, ◌∙◌}
use Rattle.std.proofs.lemmas.Bool.{true≢false}
use Rattle.acl_nfs4.specs.Ace.{ace}
use Rattle.acl_change.proofs.ChmodAccepted.{all_within, counted_first, counted_on, too_large}
use Rattle.acl_change.proofs.mode_change.is_accepted.Goals as goal

pub loop-ace-init : goal.loop-ace-init
loop-ace-init c = (
  tt,
  tt,
  counted_first c.args.mode.bits c.owner_aces.ensures c.other_aces.ensures
      (c.into_iter-ace-iterator.ensures.into_iter_gives ∙ c.aces-ace-items.ensures.same)
      c.size-owner.ensures.count c.size-others.ensures.count c.size-owner.ensures.weight c.size-others.ensures.weight,
  omega arith,
  omega arith,
)

pub loop-ace-preserved : goal.loop-ace-preserved
loop-ace-preserved c =
    let within = c.is_within.ensures.0 c.if-not-is_within.false in (
      tt,
      tt,
      counted_on (ace c.in-Some.ace) c.next.new.self c.in-Some.ensures.steps.0 c.after_chmod.ensures
          c.size-size.ensures.count c.size-size.ensures.weight c.loop-ace.invariant.2,
      within.0,
      within.1,
    )

pub returns-then-not-is_within : goal.returns-then-not-is_within
returns-then-not-is_within c = too_large
    (counted_on (ace c.in-Some.ace) c.next.new.self c.in-Some.ensures.steps.0 c.after_chmod.ensures
    c.size-size.ensures.count c.size-size.ensures.weight c.loop-ace.invariant.2)
    (λ both. true≢false (sym (c.is_within.ensures.1 both) ∙ c.if-not-is_within.true))

pub returns : goal.returns
returns c = all_within c.args.mode.within c.aces-ace-items.ensures.accepted c.in-None.ensures.steps.0.0
    c.loop-ace.invariant.2 c.loop-ace.invariant.3 c.loop-ace.invariant.4
