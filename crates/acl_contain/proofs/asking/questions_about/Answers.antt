use Rattle.acl_normal.proofs.Common.{map, principals, small_sets, small_situation, subst, ◌+◌, ◌≡◌}
use Rattle.acl_contain.specs.Questions.{asked_in}
use Rattle.acl_contain.proofs.Enumeration.{pairs_begin, pairs_done, pairs_of_next, singles_next}
use Rattle.acl_contain.proofs.asking.questions_about.Goals as goal

pub loop-p-preserved : goal.loop-p-preserved
loop-p-preserved c = singles_next _ c.args.whole.now _ c.loop-p.p-index _ c.loop-p-test.true
    c.in_ok-add_question-2.ensures c.loop-p.invariant

pub loop-i-init : goal.loop-i-init
loop-i-init c = pairs_begin _ c.args.whole.now c.loop-p.p-index _ c.loop-p-test.false c.loop-p.invariant

pub loop-i-preserved : goal.loop-i-preserved
loop-i-preserved c = pairs_of_next _ c.args.whole.now _ c.loop-i.i _ c.loop-i-test.true c.split_at.ensures.back
    c.in_ok-add_pairs.ensures c.loop-i.invariant

pub returns : goal.returns
returns c = subst
    (λ m. map asked_in c.loop-i.asked.items ≡ map (small_situation (m + 1)) (small_sets (principals c.args.whole.now)))
    c.longest-strange.ensures.value (pairs_done _ c.args.whole.now c.loop-i.i c.loop-i-test.false c.loop-i.invariant)
