use Rattle.std.proofs.Common.{◌≡◌, ◌^◌, ◌<◌, ◌*◌, ◌%◌, bit_and, refl}
use Rattle.acl_normal.proofs.Common.{all_rights, ap, arith, eqb-true, ◌∙◌}
use Rattle.std.proofs.lemmas.Nat.{pow_below}
use Rattle.std.proofs.lemmas.Nat.Bits.{and_pow}
use Rattle.acl_perm.proofs.Sets.{IsMask-and}
use Rattle.acl_normal.proofs.mask_rights.alone.Goals as goal

pub invariant_of-result : goal.invariant_of-result
invariant_of-result c = record { within = IsMask-and all_rights _ refl }

pub returns : goal.returns
returns c has =
    let bit = c.args.right.bit in
    let fits : 2 ^ bit < 2 ^ 32 = pow_below bit 32 (omega (arith, c.args.right.within)) in
    let shifted : 1 * 2 ^ bit % 4294967296 ≡ 2 ^ bit = omega (arith, fits) in
    ap (bit_and all_rights) shifted ∙ and_pow all_rights bit ∙ ap (λ v. v * 2 ^ bit) (eqb-true _ 1 has) ∙ omega arith
