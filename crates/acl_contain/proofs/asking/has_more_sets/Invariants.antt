use Rattle.acl_normal.proofs.Common.{drop, length, principal_pairs, principals, small_sets, ◌+◌, ◌≡◌}
use Rattle.acl_contain.proofs.asking.has_more_sets.Given as goal

-- what is left is what is taken without the sets of at most one and the pairs so far
abbrev pub invariant-loop-i : goal.invariant-loop-i
invariant-loop-i l = l.left + length (small_sets (principals l.whole))
    ≡ l.most + length (principal_pairs (principals (drop l.i l.whole)))
