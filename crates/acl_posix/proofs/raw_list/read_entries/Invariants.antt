use Rattle.acl_posix.proofs.Common.{None, pairs, take, ℕ, ◌<◌, ◌≡◌}
use Rattle.acl_posix.specs.RawEntries.{entry_fault_at, raw_pairs}
use Rattle.acl_posix.proofs.raw_list.read_entries.Given as goal

-- the entries so far are those of the numbers so far, with which nothing is wrong
abbrev pub invariant-loop-place : goal.invariant-loop-place
invariant-loop-place l = record {
  read : pairs l.entries.items ≡ raw_pairs (take l.place l.raws);
  right : (before : ℕ) → before < l.place → entry_fault_at l.raws before ≡ None;
}
