use Rattle.std.specs.Prelude.{◌≡◌, ◌&&◌, ℕ, List, length}
use Rattle.std.specs.List.{flat_map}
use Rattle.acl_perm.specs.Bits.{has_bit}
use Rattle.acl_nfs4.specs.Ace.{Ace}
use Rattle.acl_eval.specs.Grant.{grants_bit}
use Rattle.acl_prepared.specs.PreparedIds.{id_ace, id_situation}
use Rattle.acl_eval.specs.internal.EachRightBody.{granted_in, is_undecided, left_in}
use Rattle.acl_prepared.specs.internal.IdsBody.{AreIdParts}
use Rattle.acl_prepared.proofs.prepared_ids.decided_to.Given as goal

-- for the bytes of a list, the bytes that are left are those of ACEs that decide, with what is known so far, what the
-- whole list decides
abbrev pub invariant-loop-rest : goal.invariant-loop-rest
invariant-loop-rest l = (list : List Ace) → AreIdParts list → l.fn.aces ≡ flat_map id_ace list
    → (rest : List Ace) × AreIdParts rest × (l.rest ≡ flat_map id_ace rest)
    × ((bit : ℕ) → granted_in (id_situation l.fn.object l.fn.requester) l.so_far rest bit
    ≡ (has_bit l.fn.mask.bits bit && grants_bit list (id_situation l.fn.object l.fn.requester) bit))
    × ((bit : ℕ) → left_in (id_situation l.fn.object l.fn.requester) l.so_far rest bit
    ≡ (has_bit l.fn.mask.bits bit && is_undecided (id_situation l.fn.object l.fn.requester) bit list))

abbrev pub decreases-loop-rest : goal.decreases-loop-rest
decreases-loop-rest l = length l.rest
