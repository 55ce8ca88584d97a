use Rattle.acl_normal.proofs.Common.{[], drop, map, principal_pairs, principals, singles, small_sets, small_situation, ◌++◌, ◌∷◌, ◌≡◌}
use Rattle.acl_contain.specs.Questions.{asked_in}
use Rattle.acl_contain.proofs.asking.questions_about.Given as goal

-- the questions so far and those of the rest of the sets of one are those of the sets of at most one
abbrev pub invariant-loop-p : goal.invariant-loop-p
invariant-loop-p l = map asked_in l.asked.items
    ++ map (small_situation l.strange) (singles (principals (drop l.p-index l.whole)))
    ≡ map (small_situation l.strange) ([] ∷ singles (principals l.whole))

-- the questions so far and those of the rest of the pairs are all questions
abbrev pub invariant-loop-i : goal.invariant-loop-i
invariant-loop-i l = map asked_in l.asked.items
    ++ map (small_situation l.strange) (principal_pairs (principals (drop l.i l.whole)))
    ≡ map (small_situation l.strange) (small_sets (principals l.whole))
