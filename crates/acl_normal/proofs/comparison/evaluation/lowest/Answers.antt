use Rattle.std.proofs.Common.{ap, ◌∙◌, ◌^◌}
use Rattle.std.specs.Int.{trailing_zeros, w32}
use Rattle.acl_normal.proofs.comparison.evaluation.lowest.Goals as goal
use Rattle.acl_normal.proofs.comparison.SetEvaluation.{lowest_is, one_right}

pub invariant_of-result : goal.invariant_of-result
invariant_of-result c = record {
  within = one_right c.args.rights.bits _ _ c.args.rights.within
      (lowest_is c.args.rights.bits c.requires c.args.rights.within).0
      (c.lowest_bit.ensures ∙ ap (λ n. 2 ^ trailing_zeros w32 n) c.bits.ensures.value);
}

pub returns-clause-lowest : goal.returns-clause-lowest
returns-clause-lowest c = lowest_is c.args.rights.bits c.requires c.args.rights.within
