use Rattle.std.specs.Prelude.{◌≡◌, ◌&&◌, ℕ, List, length}
use Rattle.std.specs.List.{flat_map}
use Rattle.acl_perm.specs.Bits.{has_bit}
use Rattle.acl_nfs4.specs.Ace.{Ace}
use Rattle.acl_eval.specs.Grant.{grants_bit}
use Rattle.acl_prepared.specs.Prepared.{prepared_ace}
use Rattle.acl_eval.specs.Situation.{situation}
use Rattle.acl_eval.specs.internal.EachRightBody.{granted_in, is_undecided, left_in}
use Rattle.acl_prepared.specs.internal.PreparedBody.{AreParts}
use Rattle.acl_prepared.proofs.prepared_names.decided_to.Given as goal

-- for the bytes of a list, the bytes that are left are those of ACEs that decide, with what is known so far, what the
-- whole list decides
abbrev pub invariant-loop-rest : goal.invariant-loop-rest
invariant-loop-rest l = (list : List Ace) → AreParts list → l.fn.aces ≡ flat_map prepared_ace list
    → (rest : List Ace) × AreParts rest × (l.rest ≡ flat_map prepared_ace rest)
    × ((bit : ℕ) → granted_in (situation l.matcher.object l.matcher.requester) l.so_far rest bit
    ≡ (has_bit l.fn.mask.bits bit && grants_bit list (situation l.matcher.object l.matcher.requester) bit))
    × ((bit : ℕ) → left_in (situation l.matcher.object l.matcher.requester) l.so_far rest bit
    ≡ (has_bit l.fn.mask.bits bit && is_undecided (situation l.matcher.object l.matcher.requester) bit list))

abbrev pub decreases-loop-rest : goal.decreases-loop-rest
decreases-loop-rest l = length l.rest
