-- Masks of one right.
use Rattle.std.specs.Prelude.{◌≡◌, ◌^◌, ℕ, true}
use Rattle.std.proofs.Common.{subst, sym}
use Rattle.acl_perm.specs.Bits.{IsMask, all_rights, has_bit}
use Rattle.acl_perm.proofs.Sets.{bits_from_mask}
use Rattle.acl_eval.proofs.Same.{one_bit}

-- a mask that is one bit is the mask of a right
pub one_is_right : (mask b : ℕ) → IsMask mask → mask ≡ 2 ^ b → has_bit all_rights b ≡ true
one_is_right mask b within is =
    bits_from_mask mask b within (subst (λ n. has_bit n b ≡ true) (sym is) (one_bit b))
