use Rattle.std.specs.FinMap as set
use Rattle.acl_posix.proofs.Common.{Some, tag_at, ℕ, ◌<◌, ◌≡◌}
use Rattle.acl_posix.specs.internal.GroupAnswers.{group_id, HasAnswers}
use Rattle.acl_posix.proofs.group_answers.GroupAnswers.group_with.Given as goal

-- no group of an entry before the place has these answers
abbrev pub invariant-loop-place : goal.invariant-loop-place
invariant-loop-place g l =
    (j id : ℕ) → j < l.place → group_id (tag_at (set.entries (g.Self.EntrySet.entries l.self)) j) ≡ Some id
    → HasAnswers (g.Self.EntrySet.entries l.self) (g.Self.EntrySet.entries l.two) l.asked.group.value
    l.asked.request.bits l.own l.others id → ⊥
