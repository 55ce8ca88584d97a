use Rattle.acl_normal.proofs.Common.{refl, sym, ◌∙◌}
use Rattle.acl_normal.proofs.comparison.NumbersWithRight.{numbers_more, numbers_skip}
use Rattle.acl_normal.proofs.comparison.columns.numbers_with.Goals as goal
use Rattle.acl_normal.proofs.comparison.columns.numbers_with.Goals.{then-is_in+in_ok-push, else-is_in}

pub loop-number-preserved : goal.loop-number-preserved
loop-number-preserved c = elim c.if-is_in.branch [
  | then-is_in+in_ok-push w ↦ rw (w.numbers-is, w.places-is) (numbers_more w.len.result c.loop-number-test.true
      (w.len.ensures ∙ c.loop-number.numbers.ok.0)
      w.in_ok-push.ensures.items refl c.loop-number.invariant)
  | else-is_in w ↦ rw (w.numbers-is, w.places-is) (numbers_skip c.args.rights.now c.loop-number-test.true
      c.index-rights-number.is (sym c.is_in.ensures ∙ w.if-is_in.false) c.loop-number.invariant)
]
