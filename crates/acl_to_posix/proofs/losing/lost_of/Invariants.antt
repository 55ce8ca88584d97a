use Rattle.std.proofs.Common.{drop}
use Rattle.acl_posix.specs.Entries.{pairs}
use Rattle.acl_to_posix.specs.internal.LossBody.{AreKept, search_of}
use Rattle.acl_to_posix.proofs.losing.lost_of.Given as goal

-- if nothing is lost with the entries that are left, nothing is lost
abbrev pub invariant-loop-entry : goal.invariant-loop-entry
invariant-loop-entry l = AreKept (search_of l.wanted l.acl l.unused) (pairs (drop l.entry-index l.entries))
    → AreKept (search_of l.wanted l.acl l.unused) (pairs l.entries)
