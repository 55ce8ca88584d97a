use Rattle.acl_nfs4.proofs.Common.{[], length, weight, most_aces, most_weight, place, profile_of, ◌+◌, ◌≡◌, ◌≤◌}
use Rattle.acl_nfs4.specs.internal.PartReading.{part_from}
use Rattle.acl_nfs4.proofs.xdr.access_part.part_of.Given as goal

-- the part so far, with the ACEs that are left, gives what all ACEs give
abbrev pub invariant-loop-left : goal.invariant-loop-left
invariant-loop-left l = record {
  reads : part_from (profile_of l.profile) l.left l.weight l.part (place l.cursor)
      ≡ part_from (profile_of l.profile) l.fn.count 0 (record { kept = []; left_out = 0 }) (place l.fn.cursor);
  light : l.weight ≤ most_weight;
  few : length l.part.kept + l.part.left_out + l.left ≤ most_aces;
  heavy : weight l.part.kept ≤ l.weight;
}

abbrev pub decreases-loop-left : goal.decreases-loop-left
decreases-loop-left l = l.left
