use Rattle.acl_posix.proofs.Common.{arith, pair_of, sym, ◌∙◌}
use Rattle.acl_posix.proofs.entry_set.Halves.{found_here, found_nowhere, greater_here, less_here}
use Rattle.acl_posix.proofs.entry_set.EntrySet.place_of.Goals as goal

pub loop-low-preserved-in-Less : goal.loop-low-preserved-in-Less
loop-low-preserved-in-Less g c = less_here _ _ _ _ c.loop-low.high _ (pair_of c.entry_at.result)
    c.loop-low.invariant (omega (arith, c.loop-low-test.true)) c.entry_at.ensures
    (sym c.order_of.ensures ∙ c.in-Less.is)

pub returns-in-Equal-clause-found : goal.returns-in-Equal-clause-found
returns-in-Equal-clause-found g c = λ tag is_rank is_qualifier.
    found_here _ _ _ _ (pair_of c.entry_at.result) tag
    (omega (arith, c.loop-low-test.true, c.loop-low.invariant.inside)) c.entry_at.ensures
    (sym c.order_of.ensures ∙ c.in-Equal.is) is_rank is_qualifier

pub loop-low-preserved : goal.loop-low-preserved
loop-low-preserved g c = greater_here _ _ _ c.loop-low.low c.loop-low.high _ (pair_of c.entry_at.result)
    c.loop-low.invariant (omega arith) (omega (arith, c.loop-low-test.true)) c.entry_at.ensures
    (sym c.order_of.ensures ∙ c.in-Greater.is)

pub returns-clause-found : goal.returns-clause-found
returns-clause-found g c = λ tag is_rank is_qualifier. found_nowhere _ _ _ c.loop-low.low c.loop-low.high tag
    c.loop-low.invariant c.loop-low-test.false is_rank is_qualifier
