use Rattle.acl_normal.proofs.Common.{emitted_aces, take, ◌≡◌}
use Rattle.acl_normal.proofs.normal_form.written.Given as goal

-- the list of the ACEs so far
abbrev pub invariant-loop-item : goal.invariant-loop-item
invariant-loop-item l = l.list ≡ emitted_aces (take l.item-index l.form)
