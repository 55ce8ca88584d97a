-- The five normal forms of the list of a directory (this library's own, over RFC 8881, section 6.2.1).
use Rattle.std.specs.Prelude.{◌≡◌, ◌↔◌, ◌∷◌, [], ℕ, Bool, List}
use Rattle.std.specs.Cmp.Lexicographic.{pointwise}
use Rattle.std.specs.List.{flat_map}
use Rattle.std.specs.Ordering.{on}
use Rattle.acl_perm.specs.Profile.{Profile}
use Rattle.acl_nfs4.specs.Ace.{Ace}
use Rattle.acl_nfs4.specs.Owned.{same_list}
use Rattle.acl_nfs4.specs.Spelling.{IsAccepted, spelling}
use Rattle.acl_nfs4.specs.Within.{IsProfile}
use Rattle.acl_eval.specs.declared.inherit.ChildKind.TheVariants.{Directory, File}
use Rattle.acl_normal.specs.NormalForm.{IsNormalFormOf}
use Rattle.acl_normal.specs.Paths.{SameAtEveryPath, at, below, here}
use Rattle.acl_normal.specs.declared.five_forms.FiveForms.{FiveForms}

-- each of the five is the normal form of the list at its path
pub record AreFormsOf (source : List Ace) (forms : FiveForms) : Type 0 where
  pub object : IsNormalFormOf (at source here) forms.object
  pub file : IsNormalFormOf (at source (below 0 File)) forms.file
  pub directory : IsNormalFormOf (at source (below 0 Directory)) forms.directory
  pub file_in_directory : IsNormalFormOf (at source (below 1 File)) forms.file_in_directory
  pub directory_in_directory : IsNormalFormOf (at source (below 1 Directory)) forms.directory_in_directory

-- each of the five is accepted under the profile
pub record AreAccepted (p : Profile) (forms : FiveForms) : Type 0 where
  pub object : IsAccepted p forms.object
  pub file : IsAccepted p forms.file
  pub directory : IsAccepted p forms.directory
  pub file_in_directory : IsAccepted p forms.file_in_directory
  pub directory_in_directory : IsAccepted p forms.directory_in_directory

-- each of the five has the spelling of the form at the same path of the other list (RFC 4506)
pub record AreSpelledAlike (forms other : FiveForms) : Type 0 where
  pub object : spelling forms.object ≡ spelling other.object
  pub file : spelling forms.file ≡ spelling other.file
  pub directory : spelling forms.directory ≡ spelling other.directory
  pub file_in_directory : spelling forms.file_in_directory ≡ spelling other.file_in_directory
  pub directory_in_directory : spelling forms.directory_in_directory ≡ spelling other.directory_in_directory

-- the five lists, in the order of the fields
abbrev pub five_lists : FiveForms → List (List Ace)
five_lists forms = forms.object ∷ forms.file ∷ forms.directory ∷ forms.file_in_directory
    ∷ forms.directory_in_directory ∷ []

-- the spellings of the five lists, one after the other
abbrev pub five_spellings : FiveForms → List ℕ
five_spellings forms = flat_map spelling (five_lists forms)

-- the five forms of two accepted lists are the same in this sense if and only if the lists grant the same at every path
abbrev pub TellApart : (FiveForms → FiveForms → Type 0) → Type 0
TellApart Same = (p : Profile) (list other : List Ace) (five other_five : FiveForms) → IsProfile p
    → IsAccepted p list → AreFormsOf list five
    → IsAccepted p other → AreFormsOf other other_five
    → Same five other_five ↔ SameAtEveryPath p.masks list other

-- each of the five has the spelling of the form at the same path of the other list, as a test; two accepted lists have
-- the same spelling if and only if they are the same
abbrev pub same_forms : FiveForms → FiveForms → Bool
same_forms = on five_lists (pointwise same_list)
