use Rattle.std.proofs.Common.{refl, true}
use Rattle.acl_perm.specs.Bits.{all_rights}
use Rattle.acl_eval.proofs.Same.{equivalence}
use Rattle.aclck_c.proofs.Pairs.{same_or_not, spelled_again}
use Rattle.aclck_c.proofs.nfs4.same.are_same.Goals as goal

pub returns-then-are_equal-clause-ok : goal.returns-then-are_equal-clause-ok
returns-then-are_equal-clause-ok c =
    let read = c.in_ok-list.ensures.ok in
    same_or_not true read (spelled_again c.are_equal.ensures c.if-are_equal.true read)
    (λ is. (equivalence all_rights).reflexive c.in_ok-list.list, λ all. refl)

pub returns-clause-ok : goal.returns-clause-ok
returns-clause-ok c =
    same_or_not c.in_ok-same_views.field-0 c.in_ok-list.ensures.ok c.in_ok-other.ensures.ok
    c.in_ok-same_views.ensures.answer
