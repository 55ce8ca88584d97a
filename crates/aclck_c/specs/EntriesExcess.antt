-- What a call from C reports of what one of two POSIX ACLs grants and another denies (this library's own, over acl(5)).
use Rattle.std.specs.Prelude.{◌≡◌, ◌⊎◌, ⊤, ℕ, List, get_or, length}
use Rattle.acl_posix.specs.Entries.{Entries, as_set}
use Rattle.acl_posix.specs.Excess.{GrantsNothingMore, group_numbers, IsLowestRequest, IsPosixExcess}
use Rattle.acl_posix.specs.RawEntries.{raw_pairs}
use Rattle.acl_posix.specs.View.{IsCanonical, IsFaultOfView}
use Rattle.acl_posix.specs.declared.difference.PosixDifference.{PosixDifference}
use Rattle.acl_posix.specs.declared.raw_entry.RawEntry.{RawEntry}
use Rattle.acl_posix.specs.declared.view_fault.ViewFault.{ViewFault}
use Rattle.aclck_c.specs.Call.{JudgesInput}
use Rattle.aclck_c.specs.Entries.{AreRefusedInOrder, view_refusal}
use Rattle.aclck_c.specs.Status as status
use Rattle.aclck_c.specs.declared.posix.entries_excess.RawPosixDifference.{RawPosixDifference}
use Rattle.aclck_c.specs.declared.refusal.Refusal.{Refusal}

-- what is reported if the second ACL grants whatever the first grants
abbrev pub no_posix_difference : RawPosixDifference
no_posix_difference = record {
  same = 1;
  owner = 0;
  group = 0;
  user = 0;
  want = 0;
  ngroups = 0;
  first_group = 0;
  second_group = 0;
}

-- what is reported if the call fails
abbrev pub posix_not_compared : RawPosixDifference
posix_not_compared = record no_posix_difference { same = 0 }

-- a difference by its numbers; a group that there is not is 0
abbrev pub raw_posix_difference : PosixDifference → RawPosixDifference
raw_posix_difference d = record {
  same = 0;
  owner = d.owner.value;
  group = d.group.value;
  user = d.user.value;
  want = d.request.bits;
  ngroups = length (group_numbers d.groups);
  first_group = get_or (group_numbers d.groups) 0 0;
  second_group = get_or (group_numbers d.groups) 1 0;
}

-- the first of two ACLs grants what the second denies, these are the numbers, and there is none for a lower request
pub record IsRawExcess (first second : Entries) (found : RawPosixDifference) : Type 0 where
  pub difference : PosixDifference
  pub shows : IsPosixExcess first second difference
  pub lowest : IsLowestRequest first second difference
  pub is : found ≡ raw_posix_difference difference

-- the second of two ACLs grants whatever the first grants, or this is what the first grants more
abbrev pub ExceedsBy : Entries → Entries → RawPosixDifference → Type 0
ExceedsBy first second found =
    (GrantsNothingMore first second × (found ≡ no_posix_difference)) ⊎ IsRawExcess first second found

-- both are valid ACLs in canonical order, and this is what the first grants more than the second
pub record ExceedEntries (raws others : List RawEntry) (found : RawPosixDifference) : Type 0 where
  pub canonical : IsCanonical raws
  pub other_canonical : IsCanonical others
  pub exceeds : ExceedsBy (as_set (raw_pairs raws)) (as_set (raw_pairs others)) found

-- the fault of the second of two ACLs
abbrev pub of_second : Refusal → Refusal
of_second shown = record shown { list = 1 }

-- the second of two ACLs, which must be in canonical order, has this fault
pub record AreRefusedSecond (raws : List RawEntry) (shown : Refusal) : Type 0 where
  pub fault : ViewFault
  pub has : IsFaultOfView raws fault
  pub is : shown ≡ of_second (view_refusal fault)

-- one of two ACLs has this fault: the first, or the second while the first has none
abbrev pub AreRefusedBoth : List RawEntry → List RawEntry → Refusal → Type 0
AreRefusedBoth raws others shown = AreRefusedInOrder raws shown ⊎ (IsCanonical raws × AreRefusedSecond others shown)

-- a call that looks at the entries of two POSIX ACLs takes no memory
abbrev pub LooksAtTwoAcls : List RawEntry → List RawEntry → Refusal → Refusal → ℕ → Type 0
LooksAtTwoAcls raws others = JudgesInput (AreRefusedBoth raws others) ⊥ ⊤ status.only_done
