use Rattle.std.proofs.Common.{◌-◌, ◌≤◌, length}
use Rattle.acl_perm.specs.Profile.{full}
use Rattle.acl_nfs4.specs.Limits.{most_weight}
use Rattle.acl_nfs4.specs.Spelling.{IsAccepted, weight}
use Rattle.acl_nfs4.specs.internal.Cursor.{place}
use Rattle.acl_forms.specs.internal.AnyAces.{reader_of}
use Rattle.acl_forms.proofs.AnyAces.{Sofar}
use Rattle.acl_forms.proofs.part.words.part_of.Given as goal

-- what is kept and left out is that of the ACEs that are read so far
abbrev pub invariant-loop-place : goal.invariant-loop-place
invariant-loop-place l = record {
  sofar : Sofar (reader_of l.layout) l.count l.place l.weight l.list l.left_out.items (place l.fn.cursor)
      (place l.cursor);
  light : l.weight ≤ most_weight;
  accepted : IsAccepted full l.list;
  heavy : weight l.list ≤ l.weight;
  few : length l.list ≤ l.place;
  below : l.place ≤ l.count;
}

abbrev pub decreases-loop-place : goal.decreases-loop-place
decreases-loop-place l = l.count - l.place
