-- What the list of a POSIX ACL grants (this library's own), compared with the access check of acl(5), "ACCESS CHECK
-- ALGORITHM".
use Rattle.std.specs.Prelude.{ℕ, ◌↔◌, map, All, Contains, IsTrue}
use Rattle.std.specs.Fmt.{decimal}
use Rattle.acl_perm.specs.Bits.{IsPerm}
use Rattle.acl_perm.specs.Numbers.{permissions_in_order}
use Rattle.acl_perm.specs.Situation.{Situation}
use Rattle.acl_posix.specs.Id.{IsId}
use Rattle.acl_posix.specs.Entries.{Entries}
use Rattle.acl_posix.specs.Texts.{IsAcl}
use Rattle.acl_posix.specs.Check.{Object, Requester, grants}
use Rattle.acl_eval.specs.Grant.{Grant}
use Rattle.acl_eval.specs.Bridge.{image, bridge_list}

-- an object with this owner and this owning group
abbrev pub object_for : ℕ → ℕ → Object
object_for owner group = record { user = owner; group = group }

-- a requester and the owner and group of an object, given by ids
pub record IsAsked (object : Object) (requester : Requester) : Type 0 where
  pub owner : IsId object.user
  pub owning_group : IsId object.group
  pub asker : IsId requester.user
  pub groups : All IsId requester.groups

-- a requester and the owner and group of an object, given by the names of the ids, which are their decimal digits
abbrev pub by_name : Object → Requester → Situation
by_name object requester = record {
  owner_name = decimal object.user;
  owning_group = decimal object.group;
  user_name = decimal requester.user;
  groups = map decimal requester.groups;
}

-- read, write or execute alone
abbrev pub IsSingle : ℕ → Type 0
IsSingle want = Contains permissions_in_order want

-- the list grants one permission if and only if the check grants it
abbrev pub GrantsSingles : Type 0
GrantsSingles = (entries : Entries) (object : Object) (requester : Requester) (want : ℕ)
    → IsAcl entries → IsAsked object requester → IsSingle want
    → Grant (bridge_list entries) (by_name object requester) (image want)
    ↔ IsTrue (grants entries object requester want)

-- the list grants together what the check grants together
abbrev pub KeepsGrants : Type 0
KeepsGrants = (entries : Entries) (object : Object) (requester : Requester) (want : ℕ)
    → IsAcl entries → IsAsked object requester → IsPerm want
    → IsTrue (grants entries object requester want)
    → Grant (bridge_list entries) (by_name object requester) (image want)

-- the check, which uses ids, and the list, which uses their names, give the same answer for one permission; whatever
-- set the check grants, the list grants
pub record AnswersAlike (entries : Entries) (object : Object) (requester : Requester) (want : ℕ) : Type 0 where
  pub single : IsSingle want → Grant (bridge_list entries) (by_name object requester) (image want)
      ↔ IsTrue (grants entries object requester want)
  pub together : IsTrue (grants entries object requester want)
      → Grant (bridge_list entries) (by_name object requester) (image want)
