use Rattle.std.specs.FinMap as set
use Rattle.acl_posix.proofs.Common.{Some, tag_at, ℕ, ◌<◌, ◌≡◌}
use Rattle.acl_posix.specs.internal.GroupAnswers.{NoExcessAt, user_id}
use Rattle.acl_posix.proofs.excess.Excess.users_excess.Given as goal

-- no user of an entry before the place shows a difference
abbrev pub invariant-loop-place : goal.invariant-loop-place
invariant-loop-place g l =
    (j id : ℕ) → j < l.place → user_id (tag_at (set.entries (g.Self.EntrySet.entries l.self)) j) ≡ Some id
    → NoExcessAt (g.Self.EntrySet.entries l.first) (g.Self.EntrySet.entries l.second) l.asked.group.value
    l.asked.request.bits id
