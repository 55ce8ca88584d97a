-- Faults with a place: this library's own.
use Rattle.std.specs.Prelude.{ℕ}
use Rattle.acl_nt.specs.declared.fault.NtFault.{NtFault}
use Rattle.acl_nt.specs.declared.fault.NtReason.{NtReason}
use Rattle.acl_nt.specs.declared.fault.NtReason.TheVariants.{Memory}

-- a fault at a place
abbrev pub nt_fault_at : ℕ → NtReason → NtFault
nt_fault_at offset reason = record { offset = offset; reason = reason }

-- memory ran out; the place has no meaning
abbrev pub nt_memory_fault : NtFault
nt_memory_fault = nt_fault_at 0 Memory
