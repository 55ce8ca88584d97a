use Rattle.acl_normal.proofs.Common.{arith, Emitted, principal, refl}
use Rattle.acl_normal.proofs.emit.ShortTurns.{left_at, left_set, other_row, same_row, taken_all, taken_more, taken_none, taken_past}
use Rattle.acl_normal.proofs.emit.short.take_from.Goals as goal
use Rattle.acl_normal.proofs.emit.short.take_from.Goals.{then-item-gone, else-item-gone}

pub loop-place-init : goal.loop-place-init
loop-place-init c = record {
  taken = taken_none (principal c.args.gone.now.key.principal) c.args.gone.now.mask.bits c.args.left.now;
  rows = λ xs each. each;
}

pub loop-place-preserved : goal.loop-place-preserved
loop-place-preserved c =
    let p = principal c.args.gone.now.key.principal in
    let m = c.args.gone.now.mask.bits in
    let now = c.loop-place.left in
    let place = c.loop-place.place in
    let x = c.index-left-place.result in
    let so = c.loop-place.invariant in
    elim c.if-item-gone.branch [
      | then-item-gone w ↦ let y : Emitted = record { key = x.key; mask = w.difference.result; row = x.row } in
          rw w.left-is (record {
            taken =
                taken_more p m c.args.left.now now place x y
                (omega (arith, c.loop-place-test.true, c.loop-place.auto.left)) c.loop-place.auto.left
                c.index-left-place.is
                (same_row x y c.args.gone.now c.requires.0
                (left_at c.requires.0 now place x (so.rows c.requires.0 c.requires.1)
                (omega (arith, c.loop-place-test.true, c.loop-place.auto.left)) c.index-left-place.is)
                c.requires.2 w.if-item-gone.true refl w.difference.ensures.meaning) so.taken;
            rows = λ xs each. left_set xs now place y
                (omega (arith, c.loop-place-test.true, c.loop-place.auto.left)) (so.rows xs each)
                (let h = left_at xs now place x (so.rows xs each)
                (omega (arith, c.loop-place-test.true, c.loop-place.auto.left)) c.index-left-place.is in
                record { named = h.named; row = h.row });
          })
      | else-item-gone w ↦ rw w.left-is (record {
        taken =
            taken_past p m c.args.left.now now place x
            (omega (arith, c.loop-place-test.true, c.loop-place.auto.left)) c.loop-place.auto.left
            c.index-left-place.is
            (other_row x c.args.gone.now c.requires.0
            (left_at c.requires.0 now place x (so.rows c.requires.0 c.requires.1)
            (omega (arith, c.loop-place-test.true, c.loop-place.auto.left)) c.index-left-place.is)
            c.requires.2 w.if-item-gone.false)
            so.taken;
        rows = so.rows;
      })
    ]

pub returns-clause-list : goal.returns-clause-list
returns-clause-list c =
    taken_all (principal c.args.gone.now.key.principal) c.args.gone.now.mask.bits c.args.left.now c.loop-place.left
    c.loop-place.place (omega (arith, c.loop-place-test.false, c.loop-place.auto.left)) c.loop-place.auto.left
    c.loop-place.invariant.taken
