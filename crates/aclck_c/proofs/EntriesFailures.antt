-- Faults of POSIX entries and of attributes are failures of a call over them.
use Rattle.std.proofs.Common.{ℕ, List, Option, None, Some, inl, inr, refl}
use Rattle.std.specs.Prelude.{◌≡◌, ⊤}
use Rattle.acl_posix.specs.Attribute.{IsFaultOfAttribute}
use Rattle.acl_posix.specs.Entries.{Entries}
use Rattle.acl_posix.specs.MissingMask.{IsFaultOfRawWithMask}
use Rattle.acl_posix.specs.RawEntries.{IsFaultOfRaw}
use Rattle.acl_posix.specs.declared.attribute_fault.AttributeFault.{AttributeFault}
use Rattle.acl_posix.specs.declared.raw_entry.EntriesFault.{EntriesFault}
use Rattle.acl_posix.specs.declared.raw_entry.RawEntry.{RawEntry}
use Rattle.acl_posix.specs.View.{IsCanonical, IsFaultOfView}
use Rattle.acl_posix.specs.declared.view_fault.ViewFault.{ViewFault}
use Rattle.acl_eval.specs.Bridge.{IsBridgeFault, bridge_list}
use Rattle.acl_eval.specs.declared.bridging.BridgeFault.{BridgeFault}
use Rattle.acl_eval.specs.declared.bridging.BridgeFault.TheVariants as bridge
use Rattle.aclck_c.specs.Entries.{HoldEntries, IsRefusedBy, attribute_refusal, entries_refusal}
use Rattle.aclck_c.specs.declared.failure.Failure.{Failure}
use Rattle.aclck_c.specs.declared.failure.Failure.TheVariants as failure
use Rattle.aclck_c.specs.declared.refusal.Refusal.{Refusal}
use Rattle.aclck_c.specs.internal.Failures.{AreBridgeFailure, AreFailure, AreMaskedFailure, AreViewFailure, IsAttributeFailure, AreBothFailure, AreSecondFailure, IsFailure, of_attribute, of_bridge, of_raw_entries, of_refusal, of_view}

-- the refusal of a fault, or that memory ran out
refused_by : {F : Type 0} (Has : F → Type 0) (shown_of : F → Option Refusal) (f : F) (shown : Option Refusal) → Has f
    → shown ≡ shown_of f → IsFailure ⊤ (IsRefusedBy Has shown_of) ⊤ (of_refusal shown)
refused_by Has shown_of f (Some shown) has is = record { fault = f; has = has; is = is }
refused_by Has shown_of f None has is = tt

-- what is refused of the entries
pub entries_failure : (raws : List RawEntry) (f : EntriesFault) → IsFaultOfRaw raws f
    → AreFailure raws (of_raw_entries f)
entries_failure raws f has = refused_by (IsFaultOfRaw raws) entries_refusal f (entries_refusal f) has refl

-- what is refused of the entries with the MASK that they lack
pub masked_failure : (raws : List RawEntry) (f : EntriesFault) → IsFaultOfRawWithMask raws f
    → AreMaskedFailure raws (of_raw_entries f)
masked_failure raws f has = refused_by (IsFaultOfRawWithMask raws) entries_refusal f (entries_refusal f) has refl

-- what is refused of an attribute
pub attribute_failure : (bytes : List ℕ) (f : AttributeFault) → IsFaultOfAttribute bytes f
    → IsAttributeFailure bytes (of_attribute f)
attribute_failure bytes f has =
    refused_by (IsFaultOfAttribute bytes) attribute_refusal f (attribute_refusal f) has refl

-- the list of the entries is above a limit, or memory ran out
pub bridge_failure : (raws : List RawEntry) (acl : Entries) (f : BridgeFault) → HoldEntries raws acl
    → IsBridgeFault (bridge_list acl) f → AreBridgeFailure raws (of_bridge f)
bridge_failure raws acl bridge.Limits holds h = inr (record { acl = acl; holds = holds; past = h }, refl)
bridge_failure raws acl bridge.Memory holds h = tt

-- what is refused of the entries, by a call that makes a list of them
pub acl_failure : (raws : List RawEntry) (f : Failure) → AreFailure raws f → AreBridgeFailure raws f
acl_failure raws failure.BadArgument h = h
acl_failure raws (failure.Refused shown) h = inl h
acl_failure raws failure.Memory h = h

-- what is refused of entries that must be in canonical order
pub view_failure : (raws : List RawEntry) (f : ViewFault) → IsFaultOfView raws f → AreViewFailure raws (of_view f)
view_failure raws f has = record { fault = f; has = has; is = refl }

-- what is refused of the first of two ACLs
pub first_view_failure : (raws others : List RawEntry) (f : ViewFault) → IsFaultOfView raws f
    → AreBothFailure raws others (of_view f)
first_view_failure raws others f has = inl (view_failure raws f has)

-- what is refused of the second of two ACLs
pub second_view_failure : (raws others : List RawEntry) (f : Failure) → IsCanonical raws → AreSecondFailure others f
    → AreBothFailure raws others f
second_view_failure raws others failure.BadArgument valid h = h
second_view_failure raws others (failure.Refused shown) valid h = inr (valid, h)
second_view_failure raws others failure.Memory valid h = h
