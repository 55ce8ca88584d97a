use Rattle.std.proofs.Common.{◌≡◌, ◌++◌, take}
use Rattle.acl_posix.specs.Entries.{pairs}
use Rattle.acl_eval.specs.internal.BridgeBody.{bridged_part}
use Rattle.acl_eval.proofs.bridging.push_part.Given as goal

-- the entries so far added their part
abbrev pub invariant-loop-entry : goal.invariant-loop-entry
invariant-loop-entry l = l.list ≡ l.fn.list ++ bridged_part l.acl l.part (pairs (take l.entry-index l.entries))
