-- Entries of an attribute while they are read and written (this library's own). No public clause cites it.
use Rattle.std.specs.Prelude.{ℕ, Option, None, Some, nat_le, if◌then◌else◌}
use Rattle.acl_forms.specs.Attributes.{entry_offset}
use Rattle.acl_forms.specs.ReadFaults.{read_fault_at}
use Rattle.acl_forms.specs.declared.fault.ReadFault.{ReadFault}
use Rattle.acl_forms.specs.declared.fault.ReadReason.{ReadReason}
use Rattle.acl_forms.specs.declared.fault.ReadReason.TheVariants.{Order}
-- the most entries that an ACL can have: one for each of the six tag types and each number of 32 bits
pub use Rattle.acl_posix.specs.internal.Packed.{most_entries}

-- the fault of the entry at a place, or the fall of the tag types if it is no later
abbrev pub earlier_fault : Option ℕ → ℕ → ReadReason → ReadFault
earlier_fault None place reason = read_fault_at (entry_offset place) reason
earlier_fault (Some fall) place reason =
    if nat_le fall place then read_fault_at (entry_offset fall) Order else read_fault_at (entry_offset place) reason
