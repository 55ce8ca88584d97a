-- Why calls fail (this library's own; only the code needs it).
use Rattle.std.specs.Prelude.{◌≡◌, ⊤, ℕ, Bool, true, IsSome, List, None, Option, Some, Result, Ok, Err}
use Rattle.acl_perm.specs.Profile.{Profile}
use Rattle.acl_nfs4.specs.declared.xdr.fault.Fault.{Fault}
use Rattle.acl_nfs4.specs.declared.xdr.fault.Reason.{Reason}
use Rattle.acl_nfs4.specs.declared.xdr.fault.Reason.TheVariants as reason
use Rattle.acl_nfs4.specs.declared.xdr.unknown_groups.GroupsFault.{GroupsFault}
use Rattle.acl_nfs4.specs.declared.xdr.unknown_groups.GroupsFault.TheVariants as groups
use Rattle.acl_eval.specs.declared.bridging.BridgeFault.{BridgeFault}
use Rattle.acl_eval.specs.declared.bridging.BridgeFault.TheVariants as bridge
use Rattle.acl_change.specs.declared.mode_change.ChmodFault.{ChmodFault}
use Rattle.acl_change.specs.declared.mode_change.ChmodFault.TheVariants as chmod
use Rattle.acl_change.specs.declared.resolving.ResolveFault.{ResolveFault}
use Rattle.acl_change.specs.declared.resolving.ResolveFault.TheVariants as resolve
use Rattle.acl_contain.specs.declared.asking.QuestionsFault.{QuestionsFault}
use Rattle.acl_contain.specs.declared.asking.QuestionsFault.TheVariants as questions
use Rattle.acl_posix.specs.Names.{Table}
use Rattle.acl_forms.specs.PosixNames.{NamesOfIds}
use Rattle.acl_posix.specs.declared.names.NameFault.{NameFault}
use Rattle.acl_posix.specs.declared.names.NameFault.TheVariants as names
use Rattle.acl_posix.specs.declared.text_fault.TextFault.{TextFault}
use Rattle.acl_posix.specs.declared.attribute_fault.AttributeFault.{AttributeFault}
use Rattle.acl_posix.specs.declared.raw_entry.EntriesFault.{EntriesFault}
use Rattle.acl_posix.specs.declared.raw_entry.RawEntry.{RawEntry}
use Rattle.acl_posix.specs.declared.view_fault.ViewFault.{ViewFault}
use Rattle.aclck_c.specs.Build.{IsRefusedBuild}
use Rattle.aclck_c.specs.Compare.{IsRefusedPair}
use Rattle.aclck_c.specs.Encode.{IsRefusedText}
use Rattle.aclck_c.specs.Entries.{AreRefused, AreRefusedBridge, AreRefusedFor, AreRefusedInOrder, IsRefusedAttribute, attribute_refusal, entries_refusal, view_refusal}
use Rattle.aclck_c.specs.EntriesExcess.{AreRefusedBoth, AreRefusedSecond}
use Rattle.aclck_c.specs.Ids.{unknown_at}
use Rattle.aclck_c.specs.Lists.{AreList, IsRefusedChmod, IsRefusedList}
use Rattle.aclck_c.specs.Names.{AreGoodNames}
use Rattle.aclck_c.specs.Posix.{IsRefusedBridge, IsRefusedPosix, posix_refusal}
use Rattle.aclck_c.specs.Questions.{AreRefusedQuestions}
use Rattle.aclck_c.specs.Refusal.{in_list, merged, past_limits, too_many}
use Rattle.aclck_c.specs.Resolving.{IsRefusedObject}
use Rattle.aclck_c.specs.Unknown.{IsRefusedPart}
use Rattle.aclck_c.specs.UnknownGroups.{IsRefusedNaming}
use Rattle.aclck_c.specs.declared.failure.Failure.{Failure}
use Rattle.aclck_c.specs.declared.failure.Failure.TheVariants as failure
use Rattle.aclck_c.specs.declared.nfs4.ace.RawAce.{RawAce}
use Rattle.aclck_c.specs.declared.posix.file.RawPosixText.{RawPosixText}
use Rattle.aclck_c.specs.declared.refusal.Refusal.{Refusal}

-- memory ran out
abbrev pub out_of_memory : Failure
out_of_memory = failure.Memory

-- the failure of a text that is refused; without a refusal memory ran out
abbrev pub of_refusal : Option Refusal → Failure
of_refusal (Some shown) = failure.Refused shown
of_refusal None = failure.Memory

-- the failure of the bytes of a list, which is the first or only one
abbrev pub of_list_fault : Fault → Failure
of_list_fault fault = failure.Refused (in_list fault.offset fault.reason 0)

-- the failure of the text of POSIX ACLs
abbrev pub of_posix_text : TextFault → Failure
of_posix_text fault = of_refusal (posix_refusal fault)

-- the failure of a name
abbrev pub of_name : NameFault → Failure
of_name names.EmptyName = failure.BadArgument
of_name names.DigitsOnly = failure.BadArgument
of_name names.Taken = failure.BadArgument
of_name names.Memory = failure.Memory

-- the failure of a POSIX ACL that has no list
abbrev pub of_bridge : BridgeFault → Failure
of_bridge bridge.Limits = failure.Refused past_limits
of_bridge bridge.Memory = failure.Memory

-- the failure of a list that has no list with a mode
abbrev pub of_chmod : ChmodFault → Failure
of_chmod chmod.Limits = failure.Refused past_limits
of_chmod chmod.Memory = failure.Memory

-- the failure of a list that has more questions than are taken
abbrev pub of_questions : QuestionsFault → Failure
of_questions questions.TooMany = failure.Refused too_many
of_questions questions.Memory = failure.Memory

-- the failure of a list that has no list for one object
abbrev pub of_resolve : ResolveFault → Failure
of_resolve (resolve.Name place) = failure.Refused (unknown_at place)
of_resolve resolve.Memory = failure.Memory

-- the failure of a list in which an identifier that nobody knows gets no group of its own
abbrev pub of_groups : GroupsFault → Failure
of_groups (groups.Name place) = failure.Refused (unknown_at place)
of_groups (groups.Merged place) = failure.Refused (merged place)
of_groups groups.Memory = failure.Memory

-- what a failure says: that an argument is bad, that the input is refused so, or what is known if memory runs out
abbrev pub IsFailure : (AreGood : Type 0) → (Refusal → Type 0) → Type 0 → Failure → Type 0
IsFailure AreGood IsRefused Known failure.BadArgument = AreGood → ⊥
IsFailure AreGood IsRefused Known (failure.Refused shown) = IsRefused shown
IsFailure AreGood IsRefused Known failure.Memory = Known

-- the bytes of a list have the fault, or memory ran out
abbrev pub IsListFailure : Profile → List ℕ → ℕ → Failure → Type 0
IsListFailure p bytes which = IsFailure ⊤ (IsRefusedList p bytes which) (AreList p bytes)

-- the bytes of a list have the fault, the list is above a limit after its mode is set, or memory ran out
abbrev pub IsChmodFailure : Profile → ℕ → List ℕ → Failure → Type 0
IsChmodFailure p mode bytes = IsFailure ⊤ (IsRefusedChmod p mode bytes) (AreList p bytes)

-- the bytes of a list have the fault, the list has more questions than are taken, or memory ran out
abbrev pub AreQuestionsFailure : Profile → ℕ → List ℕ → Failure → Type 0
AreQuestionsFailure p most bytes = IsFailure ⊤ (AreRefusedQuestions p most bytes) (AreList p bytes)

-- the bytes of a list have the fault, an ACE needs a name that no ACE can have, or memory ran out
abbrev pub IsObjectFailure : Profile → List ℕ → List ℕ → List ℕ → Failure → Type 0
IsObjectFailure p bytes owner group = IsFailure ⊤ (IsRefusedObject p bytes owner group) (AreList p bytes)

-- an ACE of an array is refused, or memory ran out
abbrev pub IsBuildFailure : Profile → List RawAce → Failure → Type 0
IsBuildFailure p aces = IsFailure ⊤ (IsRefusedBuild p aces) ⊤

-- the failure of the reader of a part, by the reason and the place of its fault
abbrev pub of_part_fault : Reason → ℕ → Failure
of_part_fault reason.Memory offset = failure.Memory
of_part_fault why offset = failure.Refused (in_list offset why 0)

-- the bytes spell no list of any ACEs, and have the fault, or memory ran out
abbrev pub IsPartFailure : Profile → List ℕ → Failure → Type 0
IsPartFailure p bytes = IsFailure ⊤ (IsRefusedPart p bytes) ⊤

-- the same, or an identifier that nobody knows gets no group of its own
abbrev pub IsNamingFailure : Profile → List ℕ → List ℕ → Failure → Type 0
IsNamingFailure p bytes suffix = IsFailure ⊤ (IsRefusedNaming p bytes suffix) ⊤

-- the bytes of a list have the fault; a call that looks at the bytes alone takes no memory
abbrev pub IsViewFailure : Profile → List ℕ → Failure → Type 0
IsViewFailure p bytes = IsFailure ⊤ (IsRefusedList p bytes 0) ⊥

-- the bytes of one of two lists have the fault, or memory ran out
abbrev pub IsPairFailure : Profile → List ℕ → List ℕ → Failure → Type 0
IsPairFailure p first second = IsFailure ⊤ (IsRefusedPair p first second) (AreList p first)

-- the text of a list has the fault, or memory ran out
abbrev pub IsTextFailure : Profile → List ℕ → Failure → Type 0
IsTextFailure p text = IsFailure ⊤ (IsRefusedText p text) ⊤

-- the names make no table, the text of POSIX ACLs has the fault, or memory ran out
abbrev pub IsFileFailure : RawPosixText → Failure → Type 0
IsFileFailure given = IsFailure (AreGoodNames given.names.now) (IsRefusedPosix given) ⊤

-- the same, or the list of the file is above a limit
abbrev pub IsBridgeFailure : RawPosixText → Failure → Type 0
IsBridgeFailure given = IsFailure (AreGoodNames given.names.now) (IsRefusedBridge given) ⊤

-- the table that a call reads from names: the expected table, or bad names if there is none
abbrev pub ReadsTable : Option Table → Result Table Failure → Type 0
ReadsTable expected (Ok table) = expected ≡ Some table
ReadsTable expected (Err failure.BadArgument) = expected ≡ None
ReadsTable expected (Err (failure.Refused shown)) = ⊥
ReadsTable expected (Err failure.Memory) = ⊤

-- the names of ids that a call reads from names that make the expected table: these names, or bad names if there is
-- none
abbrev pub ReadsIdNames : Option Table → NamesOfIds → Result NamesOfIds Failure → Type 0
ReadsIdNames expected names (Ok ids) = IsSome expected × (ids ≡ names)
ReadsIdNames expected names (Err failure.BadArgument) = expected ≡ None
ReadsIdNames expected names (Err (failure.Refused shown)) = ⊥
ReadsIdNames expected names (Err failure.Memory) = ⊤

-- the table after a call that adds a name to it: the expected table, or a bad name if there is none
abbrev pub AddsFileName : Option Table → Table → Result (Unit {0}) Failure → Type 0
AddsFileName expected after (Ok done) = expected ≡ Some after
AddsFileName expected after (Err failure.BadArgument) = expected ≡ None
AddsFileName expected after (Err (failure.Refused shown)) = ⊥
AddsFileName expected after (Err failure.Memory) = ⊤

-- the failure of entries
abbrev pub of_raw_entries : EntriesFault → Failure
of_raw_entries fault = of_refusal (entries_refusal fault)

-- the failure of an attribute
abbrev pub of_attribute : AttributeFault → Failure
of_attribute fault = of_refusal (attribute_refusal fault)

-- the entries have the fault, or memory ran out
abbrev pub AreFailure : List RawEntry → Failure → Type 0
AreFailure raws = IsFailure ⊤ (AreRefused raws) ⊤

-- the same of the entries with the MASK that they lack
abbrev pub AreMaskedFailure : List RawEntry → Failure → Type 0
AreMaskedFailure raws = IsFailure ⊤ (AreRefusedFor true raws) ⊤

-- the same of the entries, with the MASK that they lack if one is added
abbrev pub AreFailureFor : Bool → List RawEntry → Failure → Type 0
AreFailureFor adds raws = IsFailure ⊤ (AreRefusedFor adds raws) ⊤

-- the entries have the fault, their list is above a limit, or memory ran out
abbrev pub AreBridgeFailure : List RawEntry → Failure → Type 0
AreBridgeFailure raws = IsFailure ⊤ (AreRefusedBridge raws) ⊤

-- the attribute has the fault, or memory ran out
abbrev pub IsAttributeFailure : List ℕ → Failure → Type 0
IsAttributeFailure bytes = IsFailure ⊤ (IsRefusedAttribute bytes) ⊤

-- the failure of entries that must be in canonical order
abbrev pub of_view : ViewFault → Failure
of_view fault = failure.Refused (view_refusal fault)

-- the entries, which must be in canonical order, have the fault; the call takes no memory
abbrev pub AreViewFailure : List RawEntry → Failure → Type 0
AreViewFailure raws = IsFailure ⊤ (AreRefusedInOrder raws) ⊥

-- the entries of the second of two ACLs have the fault; the call takes no memory
abbrev pub AreSecondFailure : List RawEntry → Failure → Type 0
AreSecondFailure raws = IsFailure ⊤ (AreRefusedSecond raws) ⊥

-- the entries of one of two ACLs have the fault; the call takes no memory
abbrev pub AreBothFailure : List RawEntry → List RawEntry → Failure → Type 0
AreBothFailure raws others = IsFailure ⊤ (AreRefusedBoth raws others) ⊥
