-- What a call from C makes of an NFSv4 list as a POSIX ACL, and what it reports of what is lost (this library's own,
-- over RFC 8881, section 6.2.1, and acl(5)): the ACL is the one that the rule of the library gives, and a loss is
-- somebody who is granted read, write or execute by the list and denied it by the ACL.
use Rattle.std.specs.Prelude.{◌≡◌, ◌≢◌, ◌≤◌, ◌⊎◌, ◌++◌, ℕ, List, None, Option, Some, get_or, length}
use Rattle.acl_perm.specs.Profile.{full}
use Rattle.acl_posix.specs.Check.{ids}
use Rattle.acl_posix.specs.Entries.{Entries}
use Rattle.acl_posix.specs.Names.{Table}
use Rattle.acl_posix.specs.declared.raw_entry.RawEntry.{RawEntry}
use Rattle.acl_nfs4.specs.Ace.{Ace}
use Rattle.acl_nfs4.specs.Spelling.{Xdr}
use Rattle.acl_ids.specs.Ids.{with_ids}
use Rattle.acl_to_posix.specs.ListNames.{AreFewNames}
use Rattle.acl_to_posix.specs.LostGrants.{IsExact, IsLossOf}
use Rattle.acl_to_posix.specs.PosixOfList.{IsPosixOf, IsToPosixFault}
use Rattle.acl_to_posix.specs.ToPosix.{IsSound}
use Rattle.acl_to_posix.specs.declared.losing.LostGrant.{LostGrant}
use Rattle.acl_to_posix.specs.declared.posix_shape.ShapeFault.{ShapeFault}
use Rattle.acl_to_posix.specs.declared.posix_shape.ShapeFault.TheVariants as shape
use Rattle.aclck_c.specs.Call.{ReportsFault}
use Rattle.aclck_c.specs.Entries.{raws_of}
use Rattle.aclck_c.specs.Ids.{unknown_at}
use Rattle.aclck_c.specs.Lists.{IsRefusedList}
use Rattle.aclck_c.specs.Names.{AreGoodNames, AreNames}
use Rattle.aclck_c.specs.Refusal.{past_limits}
use Rattle.aclck_c.specs.Status as status
use Rattle.aclck_c.specs.declared.nfs4.to_posix.RawPosixLoss.{RawPosixLoss}
use Rattle.aclck_c.specs.declared.posix.names.RawName.{RawName}
use Rattle.aclck_c.specs.declared.refusal.Refusal.{Refusal}

-- ---- what is lost

-- what is reported if nothing is lost
abbrev pub nothing_lost : RawPosixLoss
nothing_lost = record {
  exact = 1;
  owner = 0;
  group = 0;
  user = 0;
  want = 0;
  ngroups = 0;
  first_group = 0;
  second_group = 0;
  third_group = 0;
}

-- what is reported if there is no ACL: not that it is exact, and no loss
abbrev pub loss_unknown : RawPosixLoss
loss_unknown = record nothing_lost { exact = 0 }

-- a loss by its numbers; a group that there is not is 0
abbrev pub raw_posix_loss : LostGrant → RawPosixLoss
raw_posix_loss lost = record {
  exact = 0;
  owner = lost.owner.value;
  group = lost.group.value;
  user = lost.user.value;
  want = lost.perm.bits;
  ngroups = length lost.groups.items;
  first_group = get_or (ids lost.groups.items) 0 0;
  second_group = get_or (ids lost.groups.items) 1 0;
  third_group = get_or (ids lost.groups.items) 2 0;
}

-- what is reported of a loss, if there is one
abbrev pub loss_numbers : Option LostGrant → RawPosixLoss
loss_numbers None = nothing_lost
loss_numbers (Some lost) = raw_posix_loss lost

-- the list grants a requester, who is in at most three groups, what the ACL denies, and these are the numbers
pub record IsRawLoss (list : List Ace) (acl : Entries) (loss : RawPosixLoss) : Type 0 where
  pub lost : LostGrant
  pub is_loss : IsLossOf list acl lost
  pub is : loss ≡ raw_posix_loss lost

-- the list and the ACL agree about read, write and execute, each alone, or this is what is lost
abbrev pub LosesBy : List Ace → Entries → RawPosixLoss → Type 0
LosesBy list acl loss = (IsExact list acl × (loss ≡ nothing_lost)) ⊎ IsRawLoss list acl loss

-- ---- what is made

-- the names make a table, the bytes spell a list that names no more users and groups than the bound, and the entries
-- are those of the ACL of the list, which grants no more than the list, and loses this
pub record BecomesPosix (bytes : List ℕ) (names : List RawName) (most : ℕ) (loss : RawPosixLoss)
    (made : List RawEntry) : Type 0 where
  pub table : Table
  pub list : List Ace
  pub acl : Entries
  pub named : AreNames names table
  pub spelled : Xdr full list bytes
  pub few : AreFewNames most table list
  pub rule : IsPosixOf table list acl
  pub sound : IsSound (with_ids table list) acl
  pub lost : LosesBy (with_ids table list) acl loss
  pub is : made ≡ raws_of acl

-- ---- what is refused

-- the greatest bound that a call takes on the users and groups that a list names
abbrev pub greatest_bound : ℕ
greatest_bound = 65535

-- why a list has no ACL, by numbers; none if memory ran out
abbrev pub shape_refusal : ShapeFault → Option Refusal
shape_refusal (shape.NoId place) = Some (unknown_at place)
shape_refusal shape.TooManyNames = Some past_limits
shape_refusal shape.Memory = None

-- the names make a table, the bytes spell a list, and the list has this fault: a name without an id, or more users and
-- groups than the bound
pub record HasNoPosix (bytes : List ℕ) (names : List RawName) (most : ℕ) (shown : Refusal) : Type 0 where
  pub table : Table
  pub list : List Ace
  pub fault : ShapeFault
  pub named : AreNames names table
  pub spelled : Xdr full list bytes
  pub has : IsToPosixFault table list most fault
  pub is : Some shown ≡ shape_refusal fault

-- the names make a table, and the bytes have this fault, or their list has
pub record IsRefusedAsPosix (bytes : List ℕ) (names : List RawName) (most : ℕ) (shown : Refusal) : Type 0 where
  pub named : AreGoodNames names
  pub refused : IsRefusedList full bytes 0 shown ⊎ HasNoPosix bytes names most shown

-- what a call promises about a list, names and the bound
pub record ReadsForPosix (bytes : List ℕ) (names : List RawName) (most : ℕ) (fault fault_after : Refusal)
    (returned : ℕ) : Type 0 where
  pub refusal : ReportsFault (IsRefusedAsPosix bytes names most) fault fault_after returned
  -- an argument is bad if and only if this is returned; if memory runs out, nothing is said about the names
  pub bad : returned ≡ status.bad_argument → AreGoodNames names → most ≤ greatest_bound → ⊥
  pub good : (returned ≢ status.bad_argument) → most ≤ greatest_bound
  pub named : (returned ≢ status.bad_argument) → (returned ≢ status.memory) → AreGoodNames names
  -- no other status is returned
  pub known : status.IsOneOf (status.done_or_short ++ status.failures) returned
