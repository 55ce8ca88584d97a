use Rattle.std.proofs.Common.{◌++◌, refl, sym, ap, arith, ◌∙◌}
use Rattle.std.specs.Prelude.{map}
use Rattle.acl_perm.specs.Profile.{full}
use Rattle.acl_nfs4.specs.Ace.{ace}
use Rattle.acl_eval.specs.Inheritance.{children, flagged}
use Rattle.acl_eval.proofs.Children.{child_accepted}
use Rattle.acl_eval.proofs.MarkedChildren.{flagged_accepted, push_fits}
use Rattle.acl_eval.proofs.inherit.child_with.Goals as goal

pub loop-ace-init : goal.loop-ace-init
loop-ace-init c = (
  tt,
  tt,
  flagged_accepted c.args.more.bits (children c.args.kind c.args.parent.now) (omega arith)
      (child_accepted full c.args.kind c.args.parent.now refl c.aces-ace-items.ensures.accepted),
  ap (λ list. list ++ map (flagged c.args.more.bits) (children c.args.kind c.into_iter-ace-iterator.result))
      c.new-list.ensures
      ∙ ap (λ list. map (flagged c.args.more.bits) (children c.args.kind list))
      (c.into_iter-ace-iterator.ensures.into_iter_gives ∙ c.aces-ace-items.ensures.same),
)

pub push_accepted-requires : goal.push_accepted-requires
push_accepted-requires c =
    push_fits c.args.more.bits c.args.kind c.loop-ace.list (ace c.in-Some.ace) c.in-Some-inherited.flags.bits
    c.bitor.result.bits c.loop-ace.ace-iterator c.next.new.self _ c.in-Some.ensures.steps.0
    (sym c.in-Some-inherited.ensures) c.bitor.ensures.value c.loop-ace.invariant.3 c.loop-ace.invariant.2
