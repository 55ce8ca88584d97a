use Rattle.acl_posix.proofs.Common.{flat_map, pairs, take, ◌++◌, ◌≡◌}
use Rattle.acl_posix.specs.Attribute.{entry_bytes}
use Rattle.acl_posix.proofs.attribute_writer.put_entries.Given as goal

-- the bytes of the entries so far are appended
abbrev pub invariant-loop-entry : goal.invariant-loop-entry
invariant-loop-entry l =
    l.bytes.items ≡ l.fn.bytes.items ++ flat_map entry_bytes (pairs (take l.entry-index l.entries))
