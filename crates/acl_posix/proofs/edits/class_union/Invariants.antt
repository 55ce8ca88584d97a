use Rattle.acl_posix.proofs.Common.{class_union, drop, pairs, ◌<◌, ◌≡◌}
use Rattle.acl_posix.proofs.sorted.ModeAndMask.{union_from}
use Rattle.acl_posix.proofs.edits.class_union.Given as goal

-- the union so far, united with the rest, is the union of all
abbrev pub invariant-loop-entry : goal.invariant-loop-entry
invariant-loop-entry l = record {
  union : union_from l.union.0 (pairs (drop l.entry-index l.entries)) ≡ class_union (pairs l.entries);
  within : l.union.0 < 8;
}
