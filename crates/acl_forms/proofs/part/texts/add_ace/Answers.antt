use Rattle.std.proofs.Common.{◌+◌, ℕ, ap, refl}
use Rattle.std.specs.Prelude.{count_ones}
use Rattle.acl_forms.specs.PartTexts.{placed_ace}
use Rattle.acl_forms.specs.internal.AnyAces.{any_ace_of}
use Rattle.acl_forms.proofs.AnyTexts.{holds_more}
use Rattle.acl_forms.proofs.part.texts.add_ace.Goals as goal

pub returns : goal.returns
returns c whole held =
    holds_more c.args.part.now _ whole (placed_ace c.args.offset (any_ace_of c.args.item)) held c.in_ok-add.ensures.kept
    c.in_ok-add.ensures.left_out refl (ap (λ (n : ℕ). c.args.part.now.weight + count_ones n) c.bits.ensures.value)
    (rw c.bits.ensures.value c.requires.within.light) c.in_ok-add.ensures.good
