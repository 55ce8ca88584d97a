use Rattle.acl_normal.proofs.Common.{drop, principals, ◌≡◌}
use Rattle.acl_normal.specs.SmallSituations.{first_user}
use Rattle.acl_contain.proofs.asking.user_in.Given as goal

-- the first user is the first of the rest
abbrev pub invariant-loop-p : goal.invariant-loop-p
invariant-loop-p l = first_user (principals (drop l.p-index l.set)) ≡ first_user (principals l.set)
