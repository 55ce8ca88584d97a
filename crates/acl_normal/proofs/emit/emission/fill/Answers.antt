use Rattle.std.proofs.Common.{◌≡◌, ℕ, ◌*◌, length, slice_index_or}
use Rattle.acl_normal.proofs.Common.{ap, arith, FitsKeys, marks, nothing_left, subst, sym}
use Rattle.acl_normal.proofs.emit.Filled.{fills_nothing, fills_on, fills_all}
use Rattle.acl_normal.proofs.emit.Marks.{fits_zeros, nothing_marked, zero_at}
use Rattle.acl_normal.proofs.unique.Outline.{outline_length}
use Rattle.acl_normal.proofs.emit.emission.fill.Goals as goal

pub loop-bit-init : goal.loop-bit-init
loop-bit-init c = record {
  fills = fills_nothing c.args.rows.now (marks (nothing_left c.args.rows.now) c.args.ready.now);
  keys = subst (FitsKeys (nothing_left c.args.rows.now)) (sym c.requires.none)
      (fits_zeros (nothing_left c.args.rows.now) (2 * length c.args.rows.now)
      (ap (λ n. 2 * n) (sym (outline_length c.args.rows.now))));
}

pub loop-bit-preserved : goal.loop-bit-preserved
loop-bit-preserved c = record {
  fills = fills_on c.args.rows.now (marks (nothing_left c.args.rows.now) c.args.ready.now) c.loop-bit.bit
      c.loop-bit.invariant.fills c.in_ok-enter.ensures.marks c.in_ok-enter-2.ensures.marks
      c.in_ok-enter-3.ensures.marks c.in_ok-enter-4.ensures.marks;
  keys = c.in_ok-enter-4.ensures.keys;
}

pub returns-clause-marks : goal.returns-clause-marks
returns-clause-marks c =
    fills_all c.args.rows.now (marks (nothing_left c.args.rows.now) c.args.ready.now) _ c.loop-bit.bit
    c.loop-bit.invariant.fills
    (nothing_marked (nothing_left c.args.rows.now) c.args.ready.now
    (subst (λ v. (n : ℕ) → slice_index_or v n 0 ≡ 0) (sym c.requires.none) (zero_at (2 * length c.args.rows.now))))
    (omega (arith, c.loop-bit-test.false, c.loop-bit.auto.bit-end))
    c.requires.queues.list.tidy.low
