use Rattle.std.specs.Prelude.{◌≡◌, ◌<◌, ℕ, Some, length, slice_get, slice_index_or}
use Rattle.acl_eval.specs.Situation.{owner_of, owning_group_of}
use Rattle.aclck_c.specs.Requests.{AreGranted, asked_by}
use Rattle.aclck_c.specs.declared.nfs4.request.RawRequester.{RawRequester}
use Rattle.aclck_c.proofs.nfs4.check_many.grant_each.Given as goal

-- the requesters so far have their rights at their places
abbrev pub invariant-loop-place : goal.invariant-loop-place
invariant-loop-place l = record {
  count : length l.rights ≡ length l.requesters;
  rights : (place : ℕ) (who : RawRequester) → place < l.place → slice_get l.requesters place ≡ Some who
      → AreGranted l.view (asked_by (owner_of l.request.object) (owning_group_of l.request.object) who)
      l.request.mask.bits (slice_index_or l.rights place 0);
}
