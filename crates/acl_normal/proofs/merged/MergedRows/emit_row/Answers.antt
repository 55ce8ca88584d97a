use Rattle.std.proofs.Common.{◌≡◌}
use Rattle.acl_normal.proofs.Common.{ap, arith, cases_lt, low_bits, nothing_left, principal, sym, take_out, ⊎_elim, ◌∙◌}
use Rattle.acl_normal.proofs.rows.BitsTaken.{take_zero, emit_more, emit_same, low_all}
use Rattle.acl_normal.proofs.rows.Publics.{no_right_above}
use Rattle.acl_normal.proofs.merged.MergedRows.emit_row.Goals as goal
use Rattle.acl_normal.proofs.unique.NextRight.{past_absent}
use Rattle.acl_normal.proofs.rows.RowsAlike.{is_row_alike, outline_taken}

pub loop-right-init : goal.loop-right-init
loop-right-init c = record { left = sym (take_zero (principal c.args.p) c.args.self.now); within = omega arith }

pub emit_bit-requires : goal.emit_bit-requires
emit_bit-requires c =
    is_row_alike c.args.row (principal c.args.p) c.args.self.now c.loop-right.self
    (sym (ap nothing_left c.loop-right.invariant.left
    ∙ outline_taken (principal c.args.p) (low_bits c.args.mask.bits c.loop-right.from) c.args.self.now))
    c.requires

pub loop-right-preserved : goal.loop-right-preserved
loop-right-preserved c =
    let p = principal c.args.p in
    let mask = c.args.mask.bits in
    let next = c.in-Some.ensures.some in record {
      left = emit_more p mask c.in-Some.right.bit c.args.self.now c.loop-right.self c.emit_bit.new.self next.has
          (past_absent (λ n. c.loop-right.self ≡ take_out p (low_bits mask n) c.args.self.now) mask c.loop-right.from
          c.in-Some.right.bit (λ n is lacks. emit_same p mask n c.args.self.now c.loop-right.self lacks is)
          next.above next.lacks c.loop-right.invariant.left)
          c.emit_bit.ensures;
      within = omega (arith, c.in-Some.right.within);
    }

pub returns : goal.returns
returns c =
    c.loop-right.invariant.left ∙ ap (λ v. take_out (principal c.args.p) v c.args.self.now)
    (low_all c.args.mask.bits c.loop-right.from (λ b l. ⊎_elim (λ below. c.in_default.ensures.none b l below)
    (λ above. no_right_above c.args.mask.bits c.args.mask.within b above) (cases_lt b 21)))
