-- The faults of a list of raw entries as faults of an attribute (this library's own).
use Rattle.acl_posix.specs.declared.attribute_fault.AttributeFault.{AttributeFault}
use Rattle.acl_posix.specs.declared.attribute_fault.AttributeFault.TheVariants as attribute
use Rattle.acl_posix.specs.declared.raw_entry.EntriesFault.{EntriesFault}
use Rattle.acl_posix.specs.declared.raw_entry.EntriesFault.TheVariants as list

-- the same fault, of an attribute
abbrev pub of_entries : EntriesFault → AttributeFault
of_entries (list.Entry place fault) = attribute.Entry place fault
of_entries (list.Acl fault) = attribute.Acl fault
