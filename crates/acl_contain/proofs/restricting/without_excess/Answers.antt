use Rattle.acl_normal.proofs.Common.{ace, aces_in, arith, false≢true, length, length-map, subst, sym, ◌+◌}
use Rattle.acl_contain.proofs.restriction.Keeping.{all_kept, next_bit}
use Rattle.acl_contain.proofs.restricting.without_excess.Goals as goal
use Rattle.acl_contain.proofs.restricting.without_excess.Goals.{in-Some+in_ok-limits, in_default}
use Rattle.acl_contain.specs.internal.Kept.{HaveKept}
use Rattle.acl_contain.specs.internal.Limits.{bound_of}
use Rattle.acl_contain.specs.internal.Restriction.{IsRestricted}

pub loop-bit-preserved : goal.loop-bit-preserved
loop-bit-preserved c =
    let list = aces_in c.args.aces.now in
    let bound = bound_of c.in_ok-named.named in
    elim c.match-new.branch [
      | in-Some+in_ok-limits w ↦
          subst (λ v. HaveKept list bound (c.loop-bit.bit + 1) 0 (aces_in v.items)) (sym w.kept-is)
          (next_bit list bound c.loop-bit.bit (length c.args.aces.now) (aces_in w.take_excess.new.kept.items)
          (λ i past l right. absurd (omega (arith, past, l, length-map c.args.aces.now ace)))
          (subst (λ b. HaveKept list bound b (length c.args.aces.now) (aces_in w.take_excess.new.kept.items))
          w.in-Some.ensures.value w.take_excess.ensures))
      | in_default w ↦
          subst (λ v. HaveKept list bound (c.loop-bit.bit + 1) 0 (aces_in v.items)) (sym w.kept-is)
          (next_bit list bound c.loop-bit.bit 0 (aces_in c.loop-bit.kept.items)
          (λ i past l right. absurd (false≢true (w.in_default.ensures.within.1 right))) c.loop-bit.invariant)
    ]

pub returns : goal.returns
returns c = subst (λ v. IsRestricted (aces_in c.args.aces.now) v (aces_in c.loop-bit.kept.items))
    c.in_ok-named.ensures.bound
    (all_kept (aces_in c.args.aces.now) (bound_of c.in_ok-named.named) (aces_in c.loop-bit.kept.items) c.loop-bit.bit
    c.loop-bit-test.false c.loop-bit.invariant)
