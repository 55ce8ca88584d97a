use Rattle.std.proofs.Common.{◌≡◌, map, take}
use Rattle.acl_posix.specs.Entries.{pairs}
use Rattle.acl_posix.specs.RawEntries.{raw_of}
use Rattle.aclck_c.proofs.posix.entries.raws_of.Given as goal

-- the entries so far
abbrev pub invariant-loop-entry : goal.invariant-loop-entry
invariant-loop-entry l = l.raws.items ≡ map raw_of (pairs (take l.entry-index l.entries))
