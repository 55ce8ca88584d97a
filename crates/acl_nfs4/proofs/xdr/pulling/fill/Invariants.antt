use Rattle.acl_nfs4.proofs.Common.{Consumes, IsBytes, length, List, take, ℕ, ◌++◌, ◌+◌, ◌-◌, ◌≡◌, ◌≤◌}
use Rattle.acl_nfs4.proofs.xdr.pulling.fill.Given as goal

-- the bytes that the source gave are in the buffer, after those that were held
abbrev pub invariant-loop-filled : goal.invariant-loop-filled
invariant-loop-filled g l = record {
  piece : List ℕ;
  taken : Consumes (g.S.Source.remaining l.fn.source) (g.S.Source.remaining l.source) piece;
  long : l.held + length piece ≡ l.filled;
  inside : l.filled ≤ l.end;
  so_far : take l.filled l.room ≡ take l.held l.fn.room ++ piece;
  bytes : IsBytes piece;
  same : g.S.Source.failure_count l.source ≡ g.S.Source.failure_count l.fn.source;
}

abbrev pub decreases-loop-filled : goal.decreases-loop-filled
decreases-loop-filled g l = l.end - l.filled
