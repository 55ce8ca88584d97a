use Rattle.std.proofs.Common.{sym, ap, ◌∙◌}
use Rattle.acl_perm.specs.declared.kind.Kind.TheVariants.{Deny}
use Rattle.acl_nfs4.specs.Ace.{ace}
use Rattle.acl_change.specs.ListChmod.{for_this_object, unless_empty}
use Rattle.acl_eval.specs.Scan.{without}
use Rattle.acl_change.proofs.ListChmod.{changed_is, difference_without, three_parts}
use Rattle.acl_change.proofs.mode_change.after_chmod.Goals as goal

pub returns : goal.returns
returns c =
    let a = ace c.args.item.now in
    let denied = c.for_this_object.ensures ∙ ap (for_this_object a Deny) c.denied_rights-denied.ensures in
    let kept = c.for_this_object-2.ensures ∙ ap (for_this_object a a.kind)
    (difference_without _ _ _ c.difference-kept.ensures.meaning ∙ ap (without a.mask) c.lost_rights-lost.ensures) in
    three_parts c.for_new_objects.result c.unless_empty.result c.unless_empty-2.result c.for_new_objects.ensures
    (c.unless_empty.ensures ∙ ap unless_empty denied) (c.unless_empty-2.ensures ∙ ap unless_empty kept)
    ∙ sym (changed_is c.args.mode.bits a (sym c.if-not-takes_part.ensures)
    (λ e. c.if-lost-eq0.false (c.lost_rights-lost.ensures ∙ e)))
