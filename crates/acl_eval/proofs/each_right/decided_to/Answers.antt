use Rattle.std.proofs.Common.{List, ap, sym, ◌∙◌}
use Rattle.acl_nfs4.specs.Ace.{Ace}
use Rattle.acl_eval.specs.Situation.{situation}
use Rattle.acl_eval.specs.internal.EachRightBody.{granted_in, left_in}
use Rattle.acl_eval.proofs.each_right.decided_to.Goals as goal

pub loop-ace-preserved : goal.loop-ace-preserved
loop-ace-preserved c =
    let s = situation c.args.matcher.now.object c.args.matcher.now.requester in
    let old = c.loop-ace.invariant in
    let rest = c.next.new.self in (
      tt,
      tt,
      λ bit. c.after-so_far.ensures.granted rest bit
          ∙ ap (λ (list : List Ace). granted_in s c.loop-ace.so_far list bit) (sym c.in-Some.ensures.steps.0)
          ∙ old.2 bit,
      λ bit. c.after-so_far.ensures.left rest bit
          ∙ ap (λ (list : List Ace). left_in s c.loop-ace.so_far list bit) (sym c.in-Some.ensures.steps.0)
          ∙ old.3 bit,
    )
