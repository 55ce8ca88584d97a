use Rattle.std.proofs.Common.{[], length, ◌*◌, ◌+◌, ◌≡◌, ◌≤◌}
use Rattle.acl_nfs4.specs.Limits.{most_aces}
use Rattle.acl_perm.proofs.PieceLemmas.{IsOut}
use Rattle.acl_forms.specs.internal.TextWriting.{entries_left, text_line_room}
use Rattle.acl_forms.proofs.writing.put_entries.Given as goal

-- a front of the text is out, the entries of the ACEs that are left follow it, and no put failed
abbrev pub invariant-loop-ace : goal.invariant-loop-ace
invariant-loop-ace g l =
    (goal.iterator-loop-ace g).can_next l.ace-iterator ×
    (goal.iterator-loop-ace g).is_finite l.ace-iterator ×
    IsOut 0 l.done (g.S.Sink.contents l.fn.sink) (g.S.Sink.contents l.sink) (entries_left l.form [] l.fn.aces)
    (entries_left l.form l.before l.ace-iterator) ×
    (g.S.Sink.failure_count l.sink ≡ g.S.Sink.failure_count l.fn.sink) ×
    (l.done + text_line_room * length l.ace-iterator ≤ text_line_room * most_aces) ×
    (length l.before ≤ 1)
