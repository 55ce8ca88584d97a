use Rattle.acl_forms.proofs.LetterLemmas.{rights_mask}
use Rattle.acl_forms.specs.declared.fault.ReadReason.TheVariants.{Mask}
use Rattle.acl_forms.proofs.tools.entry.mask_at.Goals as goal

pub invariant_of-result : goal.invariant_of-result
invariant_of-result c = record {
  within = rights_mask c.args.object Mask c.args.field.column c.args.field.bytes.now c.in_ok-bits.bits
      c.in_ok-bits.ensures;
}
