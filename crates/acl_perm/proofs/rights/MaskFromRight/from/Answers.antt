use Rattle.std.proofs.Common.{arith, sym, subst}
use Rattle.acl_perm.specs.Bits.{IsMask}
use Rattle.acl_perm.proofs.Sets.{right_alone, right_below, right_small}
use Rattle.acl_perm.proofs.rights.MaskFromRight.from.Goals as goal

pub overflow_cast-result : goal.overflow_cast-result
overflow_cast-result c = omega (arith, right_below c.args.right.bit c.args.right.within)

pub overflow_shl-result : goal.overflow_shl-result
overflow_shl-result c = omega (arith, right_below c.args.right.bit c.args.right.within)

pub invariant_of-result : goal.invariant_of-result
invariant_of-result c =
    let bit = c.args.right.bit in
    let right = c.args.right.within in
    record { within = subst IsMask (sym (right_small bit right)) (right_alone bit right) }
