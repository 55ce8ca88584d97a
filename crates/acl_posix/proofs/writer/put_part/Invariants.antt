use Rattle.acl_posix.proofs.Common.{drop, IsOut, pairs, part_out, ◌≡◌}
use Rattle.std.specs.FinMap as set
use Rattle.acl_posix.proofs.writer.put_part.Given as goal

-- a front of the text is out, the entries from here on follow it, and no put failed
abbrev pub invariant-loop-entry : goal.invariant-loop-entry
invariant-loop-entry g l = record {
  out : IsOut l.fn.done l.done (g.S.Sink.contents l.fn.sink) (g.S.Sink.contents l.sink)
      (part_out l.form l.part l.acl l.fn.is_first (set.entries l.acl))
      (part_out l.form l.part l.acl l.is_first (pairs (drop l.entry-index l.entries)));
  same : g.S.Sink.failure_count l.sink ≡ g.S.Sink.failure_count l.fn.sink;
}
