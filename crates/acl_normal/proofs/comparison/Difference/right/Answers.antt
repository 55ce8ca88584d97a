use Rattle.acl_normal.proofs.Common.{all_rights, has_bit, subst, sym, trailing_zeros, w32}
use Rattle.std.specs.Bool.{IsTrue}
use Rattle.acl_normal.proofs.comparison.Asked.{right_bit}
use Rattle.acl_normal.proofs.comparison.Difference.right.Goals as goal

pub invariant_of-result : goal.invariant_of-result
invariant_of-result c = record {
  within = subst (λ m. IsTrue (has_bit all_rights (trailing_zeros w32 m))) (sym c.bits.ensures.value)
      (right_bit c.args.self.now.bit.bits c.args.self.now.bit.within c.args.self.now.one_right);
}
