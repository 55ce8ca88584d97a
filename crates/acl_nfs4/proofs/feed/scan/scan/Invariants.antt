use Rattle.acl_nfs4.proofs.Common.{behind_scanned, IsScanned, place, profile_of, ◌-◌, ◌≡◌, ◌≤◌}
use Rattle.acl_nfs4.proofs.feed.scan.scan.Given as goal

-- the ACEs that were judged are whole, and the cursor is after them
abbrev pub invariant-loop-progress : goal.invariant-loop-progress
invariant-loop-progress l = record {
  scanned : IsScanned (profile_of l.profile) l.body l.progress;
  seen : l.progress.seen ≤ l.count;
  here : place l.cursor ≡ behind_scanned l.body l.progress;
}

abbrev pub decreases-loop-progress : goal.decreases-loop-progress
decreases-loop-progress l = l.count - l.progress.seen
