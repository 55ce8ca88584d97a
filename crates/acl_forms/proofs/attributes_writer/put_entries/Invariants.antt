use Rattle.std.proofs.Common.{◌≡◌, drop}
use Rattle.std.specs.List.{flat_map}
use Rattle.acl_perm.proofs.PieceLemmas.{IsOut}
use Rattle.acl_posix.specs.Attribute.{entry_bytes}
use Rattle.acl_posix.specs.Entries.{pairs}
use Rattle.acl_forms.proofs.attributes_writer.put_entries.Given as goal

-- a front of the bytes is out, the bytes of the entries that are left follow it, and no put failed
abbrev pub invariant-loop-entry : goal.invariant-loop-entry
invariant-loop-entry g l = record {
  out : IsOut l.fn.start l.done (g.K.Sink.contents l.fn.sink) (g.K.Sink.contents l.sink)
      (flat_map entry_bytes (pairs l.entries)) (flat_map entry_bytes (pairs (drop l.entry-index l.entries)));
  none_failed : g.K.Sink.failure_count l.sink ≡ g.K.Sink.failure_count l.fn.sink;
}
