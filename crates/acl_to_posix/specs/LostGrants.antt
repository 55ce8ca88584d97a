-- What an NFSv4 list grants and a POSIX ACL does not (this library's own: neither RFC 8881 nor acl(5) compares them).
-- The access check of acl(5), "ACCESS CHECK ALGORITHM", asks by ids, so the list is one whose names are the digits of
-- ids.
use Rattle.std.specs.Prelude.{◌≡◌, ◌≤◌, ◌<◌, ◌↔◌, ℕ, ◌+◌, List, IsFalse, IsTrue, Some, length}
use Rattle.std.specs.FinMap as set
use Rattle.acl_posix.specs.Check.{Object, Requester, grants, ids}
use Rattle.acl_posix.specs.Entries.{Entries}
use Rattle.acl_posix.specs.Names.{Table}
use Rattle.acl_nfs4.specs.Ace.{Ace}
use Rattle.acl_eval.specs.Bridge.{image}
use Rattle.acl_eval.specs.BridgeLaws.{IsAsked, IsSingle, by_name}
use Rattle.acl_eval.specs.Grant.{Grant}
use Rattle.acl_ids.specs.Ids.{HaveIds, first_unknown}
use Rattle.acl_to_posix.specs.ListNames.{AreNamesOf}
use Rattle.acl_to_posix.specs.ToPosix.{EntryShape, size_of}
use Rattle.acl_to_posix.specs.declared.losing.LostGrant.{LostGrant}
use Rattle.acl_to_posix.specs.declared.posix_shape.ShapeFault.{ShapeFault}
use Rattle.acl_to_posix.specs.declared.posix_shape.ShapeFault.TheVariants as faults

-- wherever the list grants the rights of read, of write or of execute, the ACL grants this permission
abbrev pub KeepsSingles : List Ace → Entries → Type 0
KeepsSingles list entries = (object : Object) (requester : Requester) (want : ℕ)
    → IsAsked object requester → IsSingle want
    → Grant list (by_name object requester) (image want)
    → IsTrue (grants entries object requester want)

-- the list and the ACL agree about read, write and execute, each alone, in every situation
abbrev pub IsExact : List Ace → Entries → Type 0
IsExact list entries = (object : Object) (requester : Requester) (want : ℕ)
    → IsAsked object requester → IsSingle want
    → Grant list (by_name object requester) (image want)
    ↔ IsTrue (grants entries object requester want)

-- the object of which something is lost
abbrev pub lost_object : LostGrant → Object
lost_object lost = record { user = lost.owner.value; group = lost.group.value }

-- the requester who loses it
abbrev pub lost_requester : LostGrant → Requester
lost_requester lost = record { user = lost.user.value; groups = ids lost.groups.items }

-- the most groups of a requester who loses something
abbrev pub most_lost_groups : ℕ
most_lost_groups = 3

-- the permission is read, write or execute alone; the list grants its rights to the requester on the object, and the
-- ACL does not grant the permission; the requester is in few groups
pub record IsLossOf (list : List Ace) (entries : Entries) (lost : LostGrant) : Type 0 where
  pub asked : IsAsked (lost_object lost) (lost_requester lost)
  pub single : IsSingle lost.perm.bits
  pub granted : Grant list (by_name (lost_object lost) (lost_requester lost)) (image lost.perm.bits)
  pub denied : IsFalse (grants entries (lost_object lost) (lost_requester lost) lost.perm.bits)
  pub few : length lost.groups.items ≤ most_lost_groups

-- the users and the groups that the list names, each once, and the entries of the ACL are together at most a bound
pub record AreAtMost (most : ℕ) (table : Table) (list : List Ace) (entries : Entries) : Type 0 where
  pub named : EntryShape
  pub names : AreNamesOf table list named
  pub few : size_of named + length (set.entries entries) ≤ most

-- the users and the groups that the list names, each once, and the entries of the ACL are together more than a bound
pub record AreMoreThan (most : ℕ) (table : Table) (list : List Ace) (entries : Entries) : Type 0 where
  pub named : EntryShape
  pub names : AreNamesOf table list named
  pub more : most < size_of named + length (set.entries entries)

-- what a refusal says, in the order in which it is judged: the first ACE without an id, also one that takes no part;
-- more names and entries than the bound; or memory ran out, where they are at most the bound
abbrev pub IsLossFault : Table → List Ace → Entries → ℕ → ShapeFault → Type 0
IsLossFault table list entries most (faults.NoId place) = first_unknown table list ≡ Some place
IsLossFault table list entries most faults.TooManyNames = HaveIds table list × AreMoreThan most table list entries
IsLossFault table list entries most faults.Memory = HaveIds table list × AreAtMost most table list entries
