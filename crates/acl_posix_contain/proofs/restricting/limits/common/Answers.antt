use Rattle.std.proofs.Common.{ap, arith, List, ℕ}
use Rattle.std.specs.FinMap as set
use Rattle.acl_posix.specs.Entries.{pairs, tags}
use Rattle.acl_posix.specs.Tag.{Tag}
use Rattle.acl_posix_contain.proofs.Bits.{first_common}
use Rattle.acl_posix_contain.proofs.restricting.limits.common.Goals as goal

pub loop-entry-init : goal.loop-entry-init
loop-entry-init c = record {
  rest = λ k lt. first_common _ (tags (pairs c.args.entries.now)) (set.keys c.args.bound.now) k lt
      (ap (λ (ps : List (Tag × ℕ)). tags ps) c.requires);
  within = omega arith;
}
