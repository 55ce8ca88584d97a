use Rattle.std.proofs.Common.{◌≡◌, ◌^◌, rules}
use Rattle.aclck_c.proofs.Rights.{one_is_right}
use Rattle.aclck_c.proofs.nfs4.deciding.right_of.Goals as goal

pub invariant_of-result : goal.invariant_of-result
invariant_of-result c =
    let is : c.args.mask.bits ≡ 2 ^ c.loop-bit.bit = search rules in
    record { within = one_is_right c.args.mask.bits c.loop-bit.bit c.args.mask.within is }
