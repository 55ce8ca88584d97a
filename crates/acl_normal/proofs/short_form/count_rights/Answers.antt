use Rattle.std.specs.Prelude.{count_ones}
use Rattle.std.proofs.lemmas.List.Sums.{sum_by_more}
use Rattle.std.proofs.lemmas.Nat.{ones-le}
use Rattle.acl_normal.proofs.Common.{IsMask-lt, Mask, ap, arith}
use Rattle.acl_normal.proofs.short_form.count_rights.Goals as goal

pub loop-mask-preserved : goal.loop-mask-preserved
loop-mask-preserved c =
    let m = c.mask-item.result in
    let so = c.loop-mask.invariant in
    record {
      counted =
          omega (
            arith,
            so.counted,
            sum_by_more (λ (m : Mask). count_ones m.bits) c.args.masks.now c.loop-mask.mask-index m
                c.loop-mask-test.true,
            ap (λ (m : Mask). count_ones m.bits) c.mask-item.is,
          );
      few = omega (arith, so.few, ones-le 32 m.bits (omega (arith, IsMask-lt m.bits m.within)));
    }
