use Rattle.std.proofs.Common.{None, refl}
use Rattle.acl_normal.proofs.Common.{arith}
use Rattle.acl_perm.proofs.Sets.{IsMask-lt}
use Rattle.acl_normal.proofs.mask_rights.next_right.Goals as goal
use Rattle.acl_normal.proofs.unique.NextRight.{first_right, no_right_left}

pub returns-then-bit-lt-COUNT-clause-some : goal.returns-then-bit-lt-COUNT-clause-some
returns-then-bit-lt-COUNT-clause-some c =
    first_right c.args.mask.bits c.args.from _ (IsMask-lt c.args.mask.bits c.args.mask.within) refl
    c.if-bit-lt-COUNT.true

pub returns-else-bit-lt-COUNT-clause-none : goal.returns-else-bit-lt-COUNT-clause-none
returns-else-bit-lt-COUNT-clause-none c =
    no_right_left c.args.mask.bits c.args.from None (IsMask-lt c.args.mask.bits c.args.mask.within)
    (λ l. absurd (omega (arith, l, c.if-bit-lt-COUNT.false)))
