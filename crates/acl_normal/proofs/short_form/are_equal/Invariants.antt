use Rattle.acl_normal.proofs.Common.{emitted_aces, take, ◌≡◌}
use Rattle.acl_normal.proofs.short_form.are_equal.Given as goal

-- the ACEs so far are the same
abbrev pub invariant-loop-place : goal.invariant-loop-place
invariant-loop-place l = emitted_aces (take l.place l.list) ≡ emitted_aces (take l.place l.other)
