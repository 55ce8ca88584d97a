use Rattle.acl_posix_contain.specs.internal.Limits.{HaveKeptEntries}
use Rattle.acl_posix_contain.proofs.restricting.take_excess.Given as goal

-- the entries before the place have kept what stays
abbrev pub invariant-loop-entry : goal.invariant-loop-entry
invariant-loop-entry l = HaveKeptEntries l.acl l.bound l.entry-index l.kept
