use Rattle.std.proofs.Common.{arith, ap, slice_set, subst}
use Rattle.acl_normal.proofs.Common.{refl, sym, take_all}
use Rattle.acl_normal.proofs.comparison.inversions.table.Goals as goal
use Rattle.acl_normal.proofs.comparison.PlaceTableLemmas.{scatter_more, scatter_start, summed_done, summed_more, summed_start, unwanted}
use Rattle.acl_normal.specs.internal.comparison.PlaceTables.{IsScattered}

pub returns-then-not-wants : goal.returns-then-not-wants
returns-then-not-wants c = unwanted _ _ _ _ _ _ (sym c.if-not-wants.ensures)
    (c.in_ok-table.ensures.items_if_clones_equal (λ y e. e)) refl

pub loop-placing-init : goal.loop-placing-init
loop-placing-init c = scatter_start _ _ _ _ _ (c.in_ok-table.ensures.items_if_clones_equal (λ y e. e)) refl

pub loop-placing-preserved : goal.loop-placing-preserved
loop-placing-preserved c = scatter_more _ _ c.loop-placing-test.true c.raise.ensures
    c.loop-placing.invariant

pub loop-k-init : goal.loop-k-init
loop-k-init c = summed_start
    (subst (λ rows. IsScattered c.args.selection c.args.side c.args.size rows c.loop-placing.table.items)
    (take_all _ c.args.placings.now c.loop-placing-test.false) c.loop-placing.invariant)

pub loop-k-preserved : goal.loop-k-preserved
loop-k-preserved c = summed_more (omega arith) c.loop-k-test.true c.index.ensures
    c.index-in-loop-k.ensures (ap (λ v. slice_set c.loop-k.table.items c.loop-k.k v) c.max-most.ensures)
    c.loop-k.invariant

pub returns : goal.returns
returns c = summed_done _ _ _ _ _ _ (sym c.if-not-wants.ensures) (omega (arith, c.loop-k-test.false)) c.loop-k.invariant
