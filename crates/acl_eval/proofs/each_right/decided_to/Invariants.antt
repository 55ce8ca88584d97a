use Rattle.std.specs.Prelude.{◌≡◌, ◌&&◌, ℕ}
use Rattle.acl_perm.specs.Bits.{has_bit}
use Rattle.acl_eval.specs.Grant.{grants_bit}
use Rattle.acl_eval.specs.Situation.{situation}
use Rattle.acl_eval.specs.internal.EachRightBody.{granted_in, is_undecided, left_in}
use Rattle.acl_eval.proofs.each_right.decided_to.Given as goal

-- what is granted so far, with what the rest of the list grants of the rights that are left, is what the whole list
-- grants of the mask; what the rest of the list leaves is what the whole list leaves
abbrev pub invariant-loop-ace : goal.invariant-loop-ace
invariant-loop-ace l =
    (goal.iterator-loop-ace).can_next l.ace-iterator ×
    (goal.iterator-loop-ace).is_finite l.ace-iterator ×
    ((bit : ℕ) → granted_in (situation l.matcher.object l.matcher.requester) l.so_far l.ace-iterator bit
    ≡ (has_bit l.fn.mask.bits bit
    && grants_bit l.fn.aces (situation l.matcher.object l.matcher.requester) bit)) ×
    ((bit : ℕ) → left_in (situation l.matcher.object l.matcher.requester) l.so_far l.ace-iterator bit
    ≡ (has_bit l.fn.mask.bits bit
    && is_undecided (situation l.matcher.object l.matcher.requester) bit l.fn.aces))
