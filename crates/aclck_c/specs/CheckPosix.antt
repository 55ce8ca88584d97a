-- What a call from C asks of POSIX ACLs (this library's own, over acl(5)).
use Rattle.std.specs.Prelude.{◌≤◌, ℕ, All, List}
use Rattle.acl_posix.specs.Check.{Object, Requester}
use Rattle.acl_posix.specs.Id.{IsId}
use Rattle.acl_eval.specs.BridgeLaws.{object_for}
use Rattle.aclck_c.specs.declared.posix.check.RawPosixQuestion.{RawPosixQuestion}

-- who requests access
abbrev pub requester_with_ids : ℕ → List ℕ → Requester
requester_with_ids user groups = record { user = user; groups = groups }

-- the object that a question is about
abbrev pub object_asked : RawPosixQuestion → Object
object_asked q = object_for q.owner q.group

-- who a question is about
abbrev pub requester_asking : RawPosixQuestion → Requester
requester_asking q = requester_with_ids q.user q.groups.now

-- three ids, and a set of permissions
pub record AreNumbers (q : RawPosixQuestion) : Type 0 where
  pub is_owner : IsId q.owner
  pub is_group : IsId q.group
  pub is_user : IsId q.user
  pub is_want : q.want ≤ 7

-- the numbers are ids and permissions
pub record AreGoodIds (q : RawPosixQuestion) : Type 0 where
  pub numbers : AreNumbers q
  pub are_groups : All IsId q.groups.now
