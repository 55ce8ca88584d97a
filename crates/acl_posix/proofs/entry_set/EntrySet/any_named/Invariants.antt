use Rattle.std.specs.FinMap as set
use Rattle.acl_posix.proofs.Common.{is_named}
use Rattle.acl_posix.proofs.entry_set.Places.{AnyLeft}
use Rattle.acl_posix.proofs.entry_set.EntrySet.any_named.Given as goal

-- some entry is named if one of those that are left is
abbrev pub invariant-loop-place : goal.invariant-loop-place
invariant-loop-place g l =
    AnyLeft is_named (set.entries (g.Self.EntrySet.entries l.self)) l.place
