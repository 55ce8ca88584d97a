use Rattle.acl_normal.proofs.Common.{ap, emitted_ace, ◌∙◌}
use Rattle.acl_normal.proofs.five_forms.Writing.{next_accepted, next_written}
use Rattle.acl_normal.proofs.normal_form.written.Goals as goal

pub push_accepted-requires : goal.push_accepted-requires
push_accepted-requires c =
    next_accepted c.args.form.now c.loop-item.item-index _ c.loop-item.list _ c.requires c.loop-item-test.true
    c.loop-item.invariant (c.ace_of.ensures ∙ ap emitted_ace c.item-item.is)

pub loop-item-preserved : goal.loop-item-preserved
loop-item-preserved c =
    next_written c.args.form.now c.loop-item.item-index _ c.loop-item.list c.push_accepted.new.self _
    c.loop-item-test.true
    c.loop-item.invariant (c.ace_of.ensures ∙ ap emitted_ace c.item-item.is) c.in_ok-push_accepted.ensures.ok
