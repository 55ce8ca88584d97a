use Rattle.acl_nfs4.proofs.Common.{Consumes, IsPulled, List, profile_of, ℕ, ◌≡◌}
use Rattle.acl_nfs4.proofs.xdr.decoder.read_value.Given as goal

-- the body holds the whole ACEs of what the source has given
abbrev pub invariant-loop : goal.invariant-loop
invariant-loop g l = record {
  given : List ℕ;
  taken : Consumes (g.S.Source.remaining l.fn.source) (g.S.Source.remaining l.source) given;
  so_far : IsPulled (profile_of l.profile) l.count l.counter l.weight l.body.items given;
  same : g.S.Source.failure_count l.source ≡ g.S.Source.failure_count l.fn.source;
}
