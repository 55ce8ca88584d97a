use Rattle.std.proofs.Common.{refl}
use Rattle.acl_normal.proofs.Common.{ace, arith, length-map, principal, principals, sym}
use Rattle.acl_normal.proofs.comparison.placing.firsts.Goals as goal
use Rattle.acl_normal.proofs.comparison.FirstPlaceLemmas.{firsts_more, firsts_start, whom_within, whoms_length}

pub place_of_everyone-end-requires : goal.place_of_everyone-end-requires
place_of_everyone-end-requires c = whoms_length (principals c.args.whole.now) _ _ c.requires

pub loop-place-init : goal.loop-place-init
loop-place-init c =
    firsts_start _ (c.in_ok-out.ensures.items_if_clones_equal (λ y e. e))
    (sym (length-map c.args.whole.now principal)) refl c.kind_at-kind.ensures
    (omega (arith, length-map c.args.list.now ace, c.place_of_everyone-end.ensures.within))
    (λ lt. c.place_of_everyone-end.ensures.at (omega (arith, length-map c.args.list.now ace))) c.requires

pub bounds-whoms-place : goal.bounds-whoms-place
bounds-whoms-place c = omega (
  arith,
  whoms_length (principals c.args.whole.now) c.args.list.now c.args.whoms.now
      c.requires,
)

pub put_first-requires : goal.put_first-requires
put_first-requires c =
    whom_within (principals c.args.whole.now) c.args.list.now _ (omega arith) (omega arith) c.requires

pub loop-place-preserved : goal.loop-place-preserved
loop-place-preserved c =
    firsts_more _ _ (omega (arith, c.loop-place-test.true)) c.loop-place.auto.place
    c.place_of_everyone-end.ensures.within c.place_of_everyone-end.ensures.before c.requires c.index-list-place.is
    c.put_first.ensures c.loop-place.invariant
