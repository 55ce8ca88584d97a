use Rattle.std.proofs.Common.{drop, ◌*◌, ◌+◌, ◌≡◌, ◌≤◌}
use Rattle.acl_perm.proofs.PieceLemmas.{IsOut}
use Rattle.acl_posix.specs.Entries.{pairs}
use Rattle.acl_forms.specs.PosixWritten.{pieces_if}
use Rattle.acl_forms.specs.internal.PosixWriting.{chosen}
use Rattle.acl_forms.specs.internal.TextWriting.{text_line_room}
use Rattle.acl_forms.proofs.posix_text.writer.put_pass.Given as goal

-- a front of the pieces is out, the pieces of the entries that are left follow it, and no put failed
abbrev pub invariant-loop-entry : goal.invariant-loop-entry
invariant-loop-entry g l = record {
  out : IsOut l.fn.start l.done (g.K.Sink.contents l.fn.sink) (g.K.Sink.contents l.sink)
      (pieces_if l.names l.style (chosen l.pass) (pairs l.entries))
      (pieces_if l.names l.style (chosen l.pass) (pairs (drop l.entry-index l.entries)));
  none_failed : g.K.Sink.failure_count l.sink ≡ g.K.Sink.failure_count l.fn.sink;
  count : l.done ≤ l.fn.start + text_line_room * l.entry-index;
}
