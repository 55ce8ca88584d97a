use Rattle.std.proofs.Common.{◌+◌}
use Rattle.acl_nt.specs.DescriptorAt.{descriptor_at, descriptor_conditions, left_out_at}
use Rattle.acl_nt.specs.Ntacl.{base_of, frame_conditions}
use Rattle.acl_nt.specs.Numbers.{dword_at}
use Rattle.acl_nt.specs.internal.Parts.{parts}
use Rattle.acl_nt.proofs.ConditionLemmas.{exit_is, fails_before, reads_after}
use Rattle.acl_nt.proofs.reader.read_as.Goals as goal

pub returns-in_err-base : goal.returns-in_err-base
returns-in_err-base c =
    rw (exit_is c.from_residual.result c.from_residual.ensures.1)
    (fails_before c.in_err-base.field-0.0 (frame_conditions c.args.form c.args.bytes.now)
    (descriptor_conditions c.args.role c.args.bytes.now (base_of c.args.form c.args.bytes.now))
    c.in_err-base.ensures.exact)

pub returns : goal.returns
returns c =
    reads_after parts c.read_descriptor.result (frame_conditions c.args.form c.args.bytes.now)
    (descriptor_conditions c.args.role c.args.bytes.now (base_of c.args.form c.args.bytes.now)) (
      descriptor_at c.args.role c.args.bytes.now (base_of c.args.form c.args.bytes.now),
      left_out_at c.args.role c.args.bytes.now
          (dword_at c.args.bytes.now (base_of c.args.form c.args.bytes.now + 16)),
    )
    c.in_ok-base.ensures.exact.0 (rw c.in_ok-base.ensures.exact.1 at c.read_descriptor.ensures)
