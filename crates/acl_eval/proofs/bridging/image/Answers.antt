use Rattle.std.proofs.Common.{◌∙◌}
use Rattle.std.specs.Prelude.{bit_or}
use Rattle.acl_eval.proofs.Images.{image_parts}
use Rattle.acl_eval.proofs.bridging.image.Goals as goal

pub returns : goal.returns
returns c =
    let first_two = c.bitor.ensures.value ∙ (λ i. bit_or (c.rights_of.ensures i) (c.rights_of-2.ensures i)) in
    c.bitor-2.ensures.value ∙ (λ i. bit_or (first_two i) (c.rights_of-3.ensures i))
    ∙ image_parts c.args.perm.bits c.args.perm.within
