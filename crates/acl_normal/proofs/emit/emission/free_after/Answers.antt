use Rattle.acl_normal.proofs.Common.{arith, marks, nothing_left, plain_key, sym, ◌∙◌}
use Rattle.acl_normal.proofs.emit.NewlyFree.{FreesBelow, frees_nothing, frees_on_user, frees_on_other, frees_all, frees_up_to}
use Rattle.acl_normal.proofs.emit.emission.free_after.Goals as goal
use Rattle.acl_normal.proofs.emit.emission.free_after.Goals.{then-not-is_user+in_ok-enter-2, else-not-is_user}

pub loop-right-init : goal.loop-right-init
loop-right-init c = record {
  frees = frees_nothing (plain_key c.args.at) c.args.mask.bits c.args.rows.now
      (marks (nothing_left c.args.rows.now) c.args.ready.now);
  keys = c.requires.keys;
  within = omega arith;
}

pub loop-right-preserved : goal.loop-right-preserved
loop-right-preserved c =
    let shown = marks (nothing_left c.args.rows.now) in
    let before : FreesBelow (plain_key c.args.at) c.args.mask.bits c.args.rows.now (shown c.args.ready.now)
    (shown c.loop-right.ready) c.in-Some.right.bit =
    frees_up_to c.in-Some.ensures.some.above c.in-Some.ensures.some.lacks c.loop-right.invariant.frees in
    elim c.if-not-is_user.branch [
      | then-not-is_user+in_ok-enter-2 w ↦ rw w.ready-is (record {
        frees = frees_on_other c.other-opposite.ensures before c.in_ok-enter.ensures.marks
            w.in_ok-enter-2.ensures.marks;
        keys = w.in_ok-enter-2.ensures.keys;
        within = omega (arith, c.in-Some.right.within);
      })
      | else-not-is_user w ↦ rw w.ready-is (record {
        frees = frees_on_user c.other-opposite.ensures before
            (sym c.is_user.ensures ∙ w.if-not-is_user.false) c.in_ok-enter.ensures.marks;
        keys = c.in_ok-enter.ensures.keys;
        within = omega (arith, c.in-Some.right.within);
      })
    ]

pub returns : goal.returns
returns c = record {
  keys = c.loop-right.invariant.keys;
  marks = frees_all 21
      (frees_up_to c.loop-right.invariant.within c.in_default.ensures.none c.loop-right.invariant.frees)
      (omega arith);
}
