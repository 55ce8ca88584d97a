use Rattle.std.proofs.Common.{◌∙◌}
use Rattle.acl_eval.proofs.Classes.{granted_perm, same_mode_of_parts, settle_after}
use Rattle.acl_eval.proofs.mode.mode_of.Goals as goal

pub loop-ace-preserved : goal.loop-ace-preserved
loop-ace-preserved c =
    let rest = c.next.new.self in
    let next = c.in-Some.ensures.steps.0 in
    let (can_next, is_finite, so_far) = c.loop-ace.invariant in (
      tt,
      tt,
      record {
        owner = settle_after next (c.after-owner.ensures rest) so_far.owner;
        group = settle_after next (c.after-group.ensures rest) so_far.group;
        others = settle_after next (c.after-others.ensures rest) so_far.others;
      },
    )

pub returns : goal.returns
returns c =
    let none = c.in-None.ensures.steps.0.0 in
    let (can_next, is_finite, so_far) = c.loop-ace.invariant in
    c.from_parts.ensures ∙ same_mode_of_parts (c.perm.ensures ∙ granted_perm none so_far.owner)
    (c.perm-2.ensures ∙ granted_perm none so_far.group) (c.perm-3.ensures ∙ granted_perm none so_far.others)
