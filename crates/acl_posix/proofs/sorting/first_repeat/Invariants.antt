use Rattle.acl_posix.proofs.sorting.ValidLists.{IsSeen}
use Rattle.acl_posix.proofs.sorting.first_repeat.Given as goal

-- the tags of the entries before the place are in the map, and none of them repeats one
abbrev pub invariant-loop-place : goal.invariant-loop-place
invariant-loop-place l = IsSeen l.entries l.place l.seen.entries
