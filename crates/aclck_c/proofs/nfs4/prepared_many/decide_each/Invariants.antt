use Rattle.std.specs.Prelude.{◌≡◌, ◌<◌, ℕ, List, Some, length, slice_get, slice_index_or}
use Rattle.acl_nfs4.specs.Ace.{Ace}
use Rattle.acl_prepared.specs.Prepared.{IsPrepared}
use Rattle.acl_eval.specs.Situation.{owner_of, owning_group_of}
use Rattle.aclck_c.specs.Prepared.{AreDecidedIn, asked_prepared_by}
use Rattle.aclck_c.specs.Requests.{nothing_decided}
use Rattle.aclck_c.specs.declared.nfs4.request.RawRequester.{RawRequester}
use Rattle.aclck_c.proofs.nfs4.prepared_many.decide_each.Given as goal

-- the requesters so far have their rights at their places
abbrev pub invariant-loop-place : goal.invariant-loop-place
invariant-loop-place l = record {
  count : length l.decided ≡ length l.requesters;
  rights : (list : List Ace) → IsPrepared list l.prepared → (place : ℕ) (who : RawRequester) → place < l.place
      → slice_get l.requesters place ≡ Some who
      → AreDecidedIn (asked_prepared_by (owner_of l.call.object) (owning_group_of l.call.object) l.call.is_in_order who)
      l.call.mask.bits list (slice_index_or l.decided place nothing_decided);
}
