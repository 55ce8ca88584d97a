use Rattle.std.proofs.Common.{◌+◌, inr, sym}
use Rattle.acl_nt.specs.DescriptorAt.{descriptor_at, header_conditions, left_out_at, parts_conditions}
use Rattle.acl_nt.specs.Numbers.{dword_at}
use Rattle.acl_nt.specs.internal.Parts.{parts}
use Rattle.acl_nt.proofs.ConditionLemmas.{fault_before, reads_after}
use Rattle.acl_nt.proofs.descriptor_reader.read_descriptor.Goals as goal

pub returns-in-Some : goal.returns-in-Some
returns-in-Some c = inr (fault_before (header_conditions c.args.bytes.now c.args.base)
    (parts_conditions c.args.role c.args.bytes.now c.args.base) c.in-Some.fault (sym c.in-Some.ensures.exact))

pub returns-in-None : goal.returns-in-None
returns-in-None c = reads_after parts c.read_parts.result (header_conditions c.args.bytes.now c.args.base)
    (parts_conditions c.args.role c.args.bytes.now c.args.base) (
      descriptor_at c.args.role c.args.bytes.now c.args.base,
      left_out_at c.args.role c.args.bytes.now (dword_at c.args.bytes.now (c.args.base + 16)),
    )
    (sym c.in-None.ensures.exact) c.read_parts.ensures
