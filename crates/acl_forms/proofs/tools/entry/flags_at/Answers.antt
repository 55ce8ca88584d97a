use Rattle.std.proofs.Common.{arith}
use Rattle.acl_forms.proofs.LetterLemmas.{flags_small}
use Rattle.acl_forms.specs.declared.fault.ReadReason.TheVariants.{Flag}
use Rattle.acl_forms.proofs.tools.entry.flags_at.Goals as goal

pub overflow_cast-result : goal.overflow_cast-result
overflow_cast-result c =
    omega (
      arith,
      flags_small c.args.object Flag c.args.field.column c.args.field.bytes.now c.in_ok-bits.bits
          c.in_ok-bits.ensures,
    )
