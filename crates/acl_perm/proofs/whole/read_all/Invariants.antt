use Rattle.std.proofs.Common.{◌≡◌, ◌-◌, ◌^◌, vec_len}
use Rattle.std.specs.Io.KnownBytes.{Consumes}
use Rattle.acl_perm.proofs.whole.read_all.Given as goal

abbrev pub invariant-loop-whole : goal.invariant-loop-whole
invariant-loop-whole g l = record {
  known : Consumes (g.S.Source.remaining l.fn.source) (g.S.Source.remaining l.source) l.whole.items;
  same : g.S.Source.failure_count l.source ≡ g.S.Source.failure_count l.fn.source;
}

abbrev pub decreases-loop-whole : goal.decreases-loop-whole
decreases-loop-whole g l = 2 ^ 64 - vec_len l.whole
