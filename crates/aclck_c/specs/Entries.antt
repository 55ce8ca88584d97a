-- What calls from C make of POSIX entries, and of the bytes of extended attributes (this library's own, over acl(5) and
-- include/uapi/linux/posix_acl_xattr.h).
use Rattle.std.specs.Prelude.{◌≡◌, ◌⊎◌, ℕ, Bool, true, false, List, [], None, Option, Some, codes, map}
use Rattle.std.specs.FinMap as set
use Rattle.acl_posix.specs.Attribute.{IsAttributeOf, IsFaultOfAttribute}
use Rattle.acl_posix.specs.Check.{Object, Requester, grants}
use Rattle.acl_posix.specs.Create.{created_access}
use Rattle.acl_posix.specs.Entries.{Entries, as_set}
use Rattle.acl_posix.specs.Mask.{with_mask}
use Rattle.acl_posix.specs.Deciding.{decider, is_masked_off}
use Rattle.acl_posix.specs.MissingMask.{IsFaultOfRawWithMask, IsValidWithMask, with_missing_mask}
use Rattle.acl_posix.specs.Mode.{chmoded, mode_of}
use Rattle.acl_posix.specs.Tag.{Tag}
use Rattle.acl_posix.specs.RawEntries.{IsFaultOfRaw, IsValidRaw, raw_of, raw_pairs, raw_tag_number}
use Rattle.acl_posix.specs.View.{IsCanonical, IsFaultOfView, IsPlaceAmong}
use Rattle.acl_posix.specs.declared.attribute_fault.AttributeFault.{AttributeFault}
use Rattle.acl_posix.specs.declared.attribute_fault.AttributeFault.TheVariants as attribute
use Rattle.acl_posix.specs.declared.fault.AclFault.{AclFault}
use Rattle.acl_posix.specs.declared.fault.AclFault.TheVariants as acl
use Rattle.acl_posix.specs.declared.raw_entry.EntriesFault.{EntriesFault}
use Rattle.acl_posix.specs.declared.raw_entry.EntriesFault.TheVariants as entries
use Rattle.acl_posix.specs.declared.raw_entry.EntryFault.{EntryFault}
use Rattle.acl_posix.specs.declared.raw_entry.EntryFault.TheVariants as entry
use Rattle.acl_posix.specs.declared.raw_entry.RawEntry.{RawEntry}
use Rattle.acl_posix.specs.declared.view_fault.ViewFault.{ViewFault}
use Rattle.acl_posix.specs.declared.view_fault.ViewFault.TheVariants as view
use Rattle.acl_nfs4.specs.Spelling.{IsAccepted, Xdr}
use Rattle.acl_perm.specs.Profile.{full}
use Rattle.acl_eval.specs.Bridge.{bridge_list}
use Rattle.aclck_c.specs.Out.{truth_number}
use Rattle.aclck_c.specs.Posix.{tag_number}
use Rattle.aclck_c.specs.Refusal.{in_part, past_limits}
use Rattle.aclck_c.specs.Words.{reason_called}
use Rattle.aclck_c.specs.declared.posix.entries_check.RawPosixDecision.{RawPosixDecision}
use Rattle.aclck_c.specs.declared.refusal.Refusal.{Refusal}

-- ---- what is read

-- the entries are those of this valid ACL
pub record HoldEntries (raws : List RawEntry) (acl : Entries) : Type 0 where
  pub valid : IsValidRaw raws
  pub is : acl ≡ as_set (raw_pairs raws)

-- the entries, with the MASK that they lack, are those of this valid ACL
pub record HoldWithMask (raws : List RawEntry) (acl : Entries) : Type 0 where
  pub valid : IsValidWithMask raws
  pub is : acl ≡ as_set (with_missing_mask (raw_pairs raws))

-- the entries are those of this valid ACL, with the MASK that they lack if one is added
abbrev pub HoldEntriesFor : Bool → List RawEntry → Entries → Type 0
HoldEntriesFor true raws = HoldWithMask raws
HoldEntriesFor false raws = HoldEntries raws

-- ---- what is answered

-- the entries are a valid ACL in canonical order, and this is whether it grants the request
pub record ChecksEntries (raws : List RawEntry) (object : Object) (requester : Requester) (want : ℕ) (granted : Bool)
    : Type 0 where
  pub canonical : IsCanonical raws
  pub answer : granted ≡ grants (as_set (raw_pairs raws)) object requester want

-- the entries are a valid ACL in canonical order, and this is its mode
pub record HaveMode (raws : List RawEntry) (mode : ℕ) : Type 0 where
  pub canonical : IsCanonical raws
  pub is : mode ≡ mode_of (as_set (raw_pairs raws))

-- how a request is decided if the call fails: nothing is granted, and no entry decides
abbrev pub no_posix_decision : RawPosixDecision
no_posix_decision = record { place = 0; granted = 0; tag = 0; masked = 0 }

-- the place of the entry of a tag, and the number of the tag
abbrev pub IsTagPlaced : Entries → Tag → ℕ → ℕ → Type 0
IsTagPlaced acl tag place number = IsPlaceAmong (set.entries acl) tag place × (number ≡ raw_tag_number tag)

-- the same of the entry that decides; both are 0 if no entry alone decides
abbrev pub IsPlaced : Entries → Option Tag → ℕ → ℕ → Type 0
IsPlaced acl None place number = (place ≡ 0) × (number ≡ 0)
IsPlaced acl (Some tag) place number = IsTagPlaced acl tag place number

-- the entries are a valid ACL in canonical order, and this is how it decides the request
pub record DecideEntries (raws : List RawEntry) (object : Object) (requester : Requester) (want : ℕ)
    (found : RawPosixDecision) : Type 0 where
  pub canonical : IsCanonical raws
  pub granted : found.granted ≡ truth_number (grants (as_set (raw_pairs raws)) object requester want)
  pub masked : found.masked ≡ truth_number (is_masked_off (as_set (raw_pairs raws)) object requester want)
  pub entry : IsPlaced (as_set (raw_pairs raws)) (decider (as_set (raw_pairs raws)) object requester want) found.place
      found.tag

-- ---- what is made

-- the entries of an ACL in canonical order
abbrev pub raws_of : Entries → List RawEntry
raws_of acl = map raw_of (set.entries acl)

-- no entries if there is no ACL, and otherwise those of the ACL
abbrev pub raws_of_option : Option Entries → List RawEntry
raws_of_option None = []
raws_of_option (Some acl) = raws_of acl

-- this is made of the ACL
pub record MakesOfAcl {A : Type 0} (Holds : Entries → Type 0) (make : Entries → List A) (made : List A) : Type 0 where
  pub acl : Entries
  pub holds : Holds acl
  pub is : made ≡ make acl

-- the entries after the mode is set
abbrev pub mode_raws : ℕ → Entries → List RawEntry
mode_raws mode acl = raws_of (chmoded acl mode)

-- the entries after the mask is calculated
abbrev pub mask_raws : Entries → List RawEntry
mask_raws acl = raws_of (with_mask acl)

-- the entries of a new object in a directory with this default ACL
abbrev pub created_raws : ℕ → ℕ → Entries → List RawEntry
created_raws mode umask default = raws_of (created_access (Some default) mode umask)

-- the bytes spell the NFSv4 list of the ACL
pub record BridgesEntries (raws : List RawEntry) (bytes : List ℕ) : Type 0 where
  pub acl : Entries
  pub holds : HoldEntries raws acl
  pub spelled : Xdr full (bridge_list acl) bytes

-- the NFSv4 list of the ACL is above a limit
pub record ArePastLimits (raws : List RawEntry) : Type 0 where
  pub acl : Entries
  pub holds : HoldEntries raws acl
  pub past : IsAccepted full (bridge_list acl) → ⊥

-- the entries are those of the attribute
pub record HasRaws (bytes : List ℕ) (made : List RawEntry) : Type 0 where
  pub acl : Option Entries
  pub holds : IsAttributeOf bytes acl
  pub is : made ≡ raws_of_option acl

-- ---- what is refused

-- the number of the reason for which an entry is refused
abbrev pub entry_reason : EntryFault → ℕ
entry_reason entry.Tag = reason_called (codes "Tag")
entry_reason entry.Id = reason_called (codes "Id")
entry_reason entry.Perm = reason_called (codes "Permission")

-- the fault of the entry at a place, by numbers
abbrev pub at_entry : ℕ → ℕ → Refusal
at_entry number place = in_part number 0 place 0

-- why entries are not a valid ACL, by numbers; none if memory ran out
abbrev pub acl_refusal : AclFault → Option Refusal
acl_refusal (acl.Multi place) = Some (at_entry (reason_called (codes "Multi")) place)
acl_refusal (acl.Duplicate place) = Some (at_entry (reason_called (codes "Duplicate")) place)
acl_refusal (acl.Miss tag) = Some (in_part (reason_called (codes "Miss")) 0 0 (tag_number tag))
acl_refusal acl.Memory = None

-- the fault of entries, by numbers; none if memory ran out
abbrev pub entries_refusal : EntriesFault → Option Refusal
entries_refusal (entries.Entry place fault) = Some (at_entry (entry_reason fault) place)
entries_refusal (entries.Acl fault) = acl_refusal fault

-- the fault of an attribute, by numbers; none if memory ran out
abbrev pub attribute_refusal : AttributeFault → Option Refusal
attribute_refusal attribute.Size = Some (at_entry (reason_called (codes "Size")) 0)
attribute_refusal attribute.Version = Some (at_entry (reason_called (codes "Version")) 0)
attribute_refusal (attribute.Entry place fault) = Some (at_entry (entry_reason fault) place)
attribute_refusal (attribute.Order place) = Some (at_entry (reason_called (codes "Order")) place)
attribute_refusal (attribute.Acl fault) = acl_refusal fault

-- the fault of entries that must be in canonical order, by numbers
abbrev pub view_refusal : ViewFault → Refusal
view_refusal (view.Entry place fault) = at_entry (entry_reason fault) place
view_refusal (view.Order place) = at_entry (reason_called (codes "Order")) place
view_refusal (view.Miss tag) = in_part (reason_called (codes "Miss")) 0 0 (tag_number tag)

-- the input has this fault
pub record IsRefusedBy {F : Type 0} (Has : F → Type 0) (shown_of : F → Option Refusal) (shown : Refusal) : Type 0 where
  pub fault : F
  pub has : Has fault
  pub is : Some shown ≡ shown_of fault

-- the entries have this fault
abbrev pub AreRefused : List RawEntry → Refusal → Type 0
AreRefused raws = IsRefusedBy (IsFaultOfRaw raws) entries_refusal

-- the entries, with the MASK that they lack if one is added, have this fault
abbrev pub AreRefusedFor : Bool → List RawEntry → Refusal → Type 0
AreRefusedFor true raws = IsRefusedBy (IsFaultOfRawWithMask raws) entries_refusal
AreRefusedFor false raws = AreRefused raws

-- the attribute has this fault
abbrev pub IsRefusedAttribute : List ℕ → Refusal → Type 0
IsRefusedAttribute bytes = IsRefusedBy (IsFaultOfAttribute bytes) attribute_refusal

-- the entries have this fault, or their NFSv4 list is above a limit
abbrev pub AreRefusedBridge : List RawEntry → Refusal → Type 0
AreRefusedBridge raws shown = AreRefused raws shown ⊎ (ArePastLimits raws × (shown ≡ past_limits))

-- the entries, which must be in canonical order, have this fault
pub record AreRefusedInOrder (raws : List RawEntry) (shown : Refusal) : Type 0 where
  pub fault : ViewFault
  pub has : IsFaultOfView raws fault
  pub is : shown ≡ view_refusal fault
