use Rattle.std.proofs.Common.{refl, sym, ap, ◌∙◌}
use Rattle.std.specs.Prelude.{bit_and}
use Rattle.acl_nfs4.specs.Ace.{ace}
use Rattle.acl_eval.specs.Bridge.{image}
use Rattle.acl_eval.specs.Unnamed.{is_unnamed}
use Rattle.acl_change.proofs.ListChmod.{denied_of_name, difference_without}
use Rattle.acl_change.proofs.mode_change.denied_rights.Goals as goal

pub returns : goal.returns
returns c =
    let others = difference_without _ _ _ c.difference.ensures.meaning in
    denied_of_name c.args.mode.bits (ace c.args.item.now) c.bitand.result.bits
    (ap is_unnamed (sym c.principal.ensures) ∙ sym c.is_special.ensures ∙ c.if-is_special.false)
    (c.bitand.ensures.value ∙ ap (bit_and c.args.item.now.mask.bits)
    (c.image.ensures ∙ ap image (others ∙ rw (c.others.ensures, c.group.ensures) refl)))
