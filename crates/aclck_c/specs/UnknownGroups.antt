-- What a call from C makes of a list and of a suffix: the list in which a group stands for each special identifier that
-- nobody knows (this library's own, over RFC 8881, section 6.2.1.5).
use Rattle.std.specs.Prelude.{◌≡◌, ◌⊎◌, ℕ, List, None, Some}
use Rattle.acl_perm.specs.Profile.{Profile}
use Rattle.acl_nfs4.specs.AccessPart.{IsPartOf, Part}
use Rattle.acl_nfs4.specs.Spelling.{spelling}
use Rattle.acl_nfs4.specs.UnknownGroups.{HasFreeNames, first_misnamed, first_taken, with_groups}
use Rattle.aclck_c.specs.Ids.{unknown_at}
use Rattle.aclck_c.specs.Refusal.{merged}
use Rattle.aclck_c.specs.Unknown.{IsRefusedPart}
use Rattle.aclck_c.specs.declared.refusal.Refusal.{Refusal}

-- the bytes spell a list, and the result spells its part that access reads, with a group of its own for each identifier
pub record MakesWithGroups (p : Profile) (bytes suffix result : List ℕ) : Type 0 where
  pub part : Part
  pub read : IsPartOf p bytes part
  pub free : HasFreeNames suffix part.kept
  pub is : result ≡ spelling (with_groups suffix part.kept)

-- the bytes spell a list, and the identifier of the ACE at this place, with the suffix, is not the name of a group
pub record IsMisnamedIn (p : Profile) (bytes suffix : List ℕ) (shown : Refusal) : Type 0 where
  pub part : Part
  pub read : IsPartOf p bytes part
  pub place : ℕ
  pub found : first_misnamed suffix part.kept ≡ Some place
  pub is : shown ≡ unknown_at place

-- all identifiers become names of groups, and the ACE at this place is for a group of such a name
pub record IsTakenIn (p : Profile) (bytes suffix : List ℕ) (shown : Refusal) : Type 0 where
  pub part : Part
  pub read : IsPartOf p bytes part
  pub named : first_misnamed suffix part.kept ≡ None
  pub place : ℕ
  pub found : first_taken suffix part.kept ≡ Some place
  pub is : shown ≡ merged place

-- the bytes have this fault, or an identifier gets no group of its own
abbrev pub IsRefusedNaming : Profile → List ℕ → List ℕ → Refusal → Type 0
IsRefusedNaming p bytes suffix shown =
    IsRefusedPart p bytes shown ⊎ IsMisnamedIn p bytes suffix shown ⊎ IsTakenIn p bytes suffix shown
