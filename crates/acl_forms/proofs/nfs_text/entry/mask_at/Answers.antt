use Rattle.acl_forms.proofs.LetterLemmas.{nfs_rights_mask}
use Rattle.acl_forms.specs.declared.fault.ReadReason.TheVariants.{Mask}
use Rattle.acl_forms.specs.declared.object.ObjectKind.TheVariants.{Directory}
use Rattle.acl_forms.proofs.nfs_text.entry.mask_at.Goals as goal

pub invariant_of-result : goal.invariant_of-result
invariant_of-result c = record {
  within = nfs_rights_mask Directory Mask c.args.field.column c.args.field.bytes.now c.in_ok-bits.bits
      c.in_ok-bits.ensures;
}
