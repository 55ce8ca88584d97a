use Rattle.std.proofs.Common.{length, take, ◌-◌, ◌≡◌, ◌≤◌}
use Rattle.std.specs.Io.KnownBytes.{Appends}
use Rattle.acl_perm.proofs.whole.put_all.Given as goal

abbrev pub invariant-loop-written : goal.invariant-loop-written
invariant-loop-written g l = record {
  inside : l.written ≤ length l.bytes;
  known : Appends (g.S.Sink.contents l.fn.sink) (g.S.Sink.contents l.sink) (take l.written l.bytes);
  same : g.S.Sink.failure_count l.sink ≡ g.S.Sink.failure_count l.fn.sink;
}

abbrev pub decreases-loop-written : goal.decreases-loop-written
decreases-loop-written g l = length l.bytes - l.written
