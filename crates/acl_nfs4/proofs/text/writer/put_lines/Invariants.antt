use Rattle.acl_nfs4.proofs.Common.{ace_line_room, ace_text, IsOut, length, most_aces, ◌*◌, ◌+◌, ◌≡◌, ◌≤◌}
use Rattle.acl_nfs4.proofs.text.writer.put_lines.Given as goal

-- a front of the text is out, the lines of the ACEs that are left follow it, and no put failed
abbrev pub invariant-loop-ace : goal.invariant-loop-ace
invariant-loop-ace g l =
    (goal.iterator-loop-ace g).can_next l.ace-iterator ×
    (goal.iterator-loop-ace g).is_finite l.ace-iterator ×
    IsOut 0 l.done (g.S.Sink.contents l.fn.sink) (g.S.Sink.contents l.sink) (ace_text l.fn.aces)
    (ace_text l.ace-iterator) ×
    (g.S.Sink.failure_count l.sink ≡ g.S.Sink.failure_count l.fn.sink) ×
    (l.done + ace_line_room * length l.ace-iterator ≤ ace_line_room * most_aces)
