use Rattle.acl_normal.proofs.Common.{aces_in, take, ◌≡◌}
use Rattle.acl_normal.proofs.plain.normal_form.list_of.Given as goal

-- the list of the ACEs so far
abbrev pub invariant-loop-ace : goal.invariant-loop-ace
invariant-loop-ace l = l.list ≡ aces_in (take l.ace-index l.aces)
