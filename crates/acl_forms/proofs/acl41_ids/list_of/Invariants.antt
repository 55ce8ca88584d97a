use Rattle.std.proofs.Common.{◌≡◌, ◌+◌, ◌-◌, ◌≤◌, [], length}
use Rattle.acl_perm.specs.Profile.{full}
use Rattle.acl_nfs4.specs.Limits.{most_aces}
use Rattle.acl_nfs4.specs.Spelling.{IsAccepted}
use Rattle.acl_nfs4.specs.internal.Cursor.{place}
use Rattle.acl_forms.specs.internal.IdAces.{id_aces_from}
use Rattle.acl_forms.proofs.acl41_ids.list_of.Given as goal

-- the list so far, with the ACEs that are left, gives what all ACEs give
abbrev pub invariant-loop : goal.invariant-loop
invariant-loop l = record {
  reads : id_aces_from (l.count - l.counter) l.list (place l.cursor)
      ≡ id_aces_from l.fn.count [] (place l.fn.cursor);
  accepted : IsAccepted full l.list;
  few : length l.list + (l.count - l.counter) ≤ most_aces;
}
