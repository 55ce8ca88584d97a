use Rattle.acl_normal.proofs.Common.{ace, ace_key, arith, no_bit, refl}
use Rattle.acl_normal.proofs.plain.FreeInRows.{free_below_all, free_below_more}
use Rattle.acl_normal.proofs.plain.by_rows.free_bits.Goals as goal

pub loop-bit-init : goal.loop-bit-init
loop-bit-init c = record {
  within = refl;
  below = record { below = λ b l. absurd (omega (arith, l)); above = λ b l. no_bit b };
}

pub loop-bit-preserved : goal.loop-bit-preserved
loop-bit-preserved c = record {
  within = c.union-free.result.within;
  below = free_below_more c.args.rows.now (ace_key (ace c.args.item.now)) c.loop-bit.free.0 c.own_right.result.bits
      c.union-free.result.bits c.loop-bit.bit c.loop-bit.invariant.below c.own_right.ensures.here
      c.own_right.ensures.others c.union-free.ensures.meaning;
}

pub returns : goal.returns
returns c =
    free_below_all c.args.rows.now (ace_key (ace c.args.item.now)) c.loop-bit.free.0 c.loop-bit.bit (omega arith)
    c.requires c.loop-bit.invariant.below
