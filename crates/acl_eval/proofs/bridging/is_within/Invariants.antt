use Rattle.std.proofs.Common.{◌≡◌, ◌≤◌, take}
use Rattle.std.specs.Prelude.{sum_by}
use Rattle.acl_posix.specs.Entries.{pair_of}
use Rattle.acl_nfs4.specs.Limits.{most_weight}
use Rattle.acl_eval.proofs.BridgeWeight.{cost}
use Rattle.acl_eval.proofs.bridging.is_within.Given as goal

-- the entries so far cost this many bits
abbrev pub invariant-loop-entry : goal.invariant-loop-entry
invariant-loop-entry l =
    record {
      sum : l.weight ≡ sum_by (λ x. cost (pair_of x)) (take l.entry-index l.entries);
      small : l.weight ≤ most_weight;
    }
