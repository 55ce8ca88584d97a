use Rattle.acl_normal.proofs.Common.{drop, map, partners, principal, principals, small_situation, ◌++◌, ◌≡◌}
use Rattle.acl_contain.specs.Questions.{asked_in}
use Rattle.acl_contain.proofs.asking.add_pairs.Given as goal

-- the questions so far and those of the rest are all questions
abbrev pub invariant-loop-q : goal.invariant-loop-q
invariant-loop-q l = map asked_in l.asked.items
    ++ map (small_situation l.strange) (partners (principal l.p) (principals (drop l.q-index l.others)))
    ≡ map asked_in l.initial.asked.items
    ++ map (small_situation l.strange) (partners (principal l.p) (principals l.others))
