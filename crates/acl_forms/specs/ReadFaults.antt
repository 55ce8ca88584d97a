-- Faults with a place: this library's own.
use Rattle.std.specs.Prelude.{ℕ}
use Rattle.acl_nfs4.specs.declared.xdr.fault.Reason.TheVariants.{Memory}
use Rattle.acl_forms.specs.declared.fault.ReadFault.{ReadFault}
use Rattle.acl_forms.specs.declared.fault.ReadReason.{ReadReason}
use Rattle.acl_forms.specs.declared.fault.ReadReason.TheVariants as reasons

-- a fault at a place
abbrev pub read_fault_at : ℕ → ReadReason → ReadFault
read_fault_at offset reason = record { offset = offset; reason = reason }

-- memory ran out; the place has no meaning
abbrev pub no_memory_left : ReadFault
no_memory_left = record { offset = 0; reason = reasons.List Memory }
