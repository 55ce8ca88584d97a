-- What calls from C make of the bytes of a list (this library's own, over RFC 8881, section 6.2.1).
use Rattle.std.specs.Prelude.{◌≡◌, ◌⊎◌, ℕ, Bool, List, if◌then◌else◌}
use Rattle.acl_perm.specs.Profile.{Profile, full}
use Rattle.acl_nfs4.specs.Ace.{Ace}
use Rattle.acl_nfs4.specs.Fault.{IsWholeFault}
use Rattle.acl_nfs4.specs.Programs.{MakesText}
use Rattle.acl_nfs4.specs.Spelling.{IsAccepted, Xdr, spelling}
use Rattle.acl_nfs4.specs.declared.xdr.fault.Reason.{Reason}
use Rattle.acl_eval.specs.Inheritance.{inherited_children}
use Rattle.acl_change.specs.ListChmod.{chmod_list}
use Rattle.acl_eval.specs.Programs.{child_bytes}
use Rattle.acl_eval.specs.declared.inherit.ChildKind.{ChildKind}
use Rattle.acl_contain.specs.Needed.{AreNeeded}
use Rattle.aclck_c.specs.Options.{IsMode, IsProfileOption, child_kind_from, has_option, mark_option, profile_from}
use Rattle.aclck_c.specs.Refusal.{in_list, past_limits}
use Rattle.aclck_c.specs.declared.refusal.Refusal.{Refusal}

-- the bytes spell a list of the profile, and nothing more
abbrev pub AreList : Profile → List ℕ → Type 0
AreList p bytes = (list : List Ace) × Xdr p list bytes

-- the one spelling of the list that a new object gets in a directory with this list, with INHERITED on each ACE if the
-- options say so
abbrev pub created_bytes : ChildKind → Bool → List Ace → List ℕ
created_bytes created is_marked list =
    if is_marked then spelling (inherited_children created list) else child_bytes created list

-- the bytes of the list that a new object gets in a directory with the list of these bytes
abbrev pub MakesChild : ℕ → List ℕ → List ℕ → Type 0
MakesChild options =
    MakesText (profile_from options) (created_bytes (child_kind_from options) (has_option mark_option options))

-- the bytes spell a list, and the result spells that list after its mode is set
pub record MakesChmod (p : Profile) (mode : ℕ) (bytes result : List ℕ) : Type 0 where
  pub list : List Ace
  pub read : Xdr p list bytes
  pub spelled : Xdr full (chmod_list mode list) result

-- the bytes spell a list, which is above a limit after its mode is set
pub record IsPastChmod (p : Profile) (mode : ℕ) (bytes : List ℕ) : Type 0 where
  pub list : List Ace
  pub read : Xdr p list bytes
  pub past : IsAccepted full (chmod_list mode list) → ⊥

-- the number is a mode, and the options are those of a profile
pub record IsGoodChmod (mode options : ℕ) : Type 0 where
  pub is_mode : IsMode mode
  pub is_profile : IsProfileOption options

-- the bytes spell a list, and these are the masks of its needed rights
pub record HaveNeeded (p : Profile) (bytes masks : List ℕ) : Type 0 where
  pub list : List Ace
  pub spelled : Xdr p list bytes
  pub needed : AreNeeded list masks

-- the bytes have this fault: of the first or only list, 0, or of the second of two, 1
pub record IsRefusedList (p : Profile) (bytes : List ℕ) (which : ℕ) (shown : Refusal) : Type 0 where
  pub offset : ℕ
  pub reason : Reason
  pub has : IsWholeFault p bytes offset reason
  pub is : shown ≡ in_list offset reason which

-- the bytes have this fault, or the list is above a limit after its mode is set
abbrev pub IsRefusedChmod : Profile → ℕ → List ℕ → Refusal → Type 0
IsRefusedChmod p mode bytes shown =
    IsRefusedList p bytes 0 shown ⊎ (IsPastChmod p mode bytes × (shown ≡ past_limits))
