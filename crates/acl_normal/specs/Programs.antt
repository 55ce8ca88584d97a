-- What programs make of the bytes of a list by its normal forms, defined once for all of them (this library's own, over
-- RFC 8881, section 6.2.1).
use Rattle.std.specs.Prelude.{◌≡◌, ◌∷◌, ◌++◌, [], ℕ, Bool, List, codes, decimal, false, true}
use Rattle.std.specs.List.{flat_map}
use Rattle.acl_perm.specs.Lines.{line_feed}
use Rattle.acl_perm.specs.Profile.{Profile}
use Rattle.acl_nfs4.specs.Ace.{Ace}
use Rattle.acl_nfs4.specs.AceText.{kind_name, space}
use Rattle.acl_nfs4.specs.Spelling.{Xdr}
use Rattle.acl_normal.specs.FiveForms.{AreAccepted, AreFormsOf, five_spellings}
use Rattle.acl_normal.specs.Left.{IsLowest}
use Rattle.acl_normal.specs.Tables.{IsTableOf, TableRow}
use Rattle.acl_normal.specs.declared.five_forms.FiveForms.{FiveForms}

-- ---- the five normal forms

-- the input spells a list, and the bytes its five normal forms, one after the other (RFC 4506)
pub record NormalizesAtPaths (p : Profile) (input bytes : List ℕ) : Type 0 where
  pub source : List Ace
  pub forms : FiveForms
  pub read : Xdr p source input
  pub are_forms : AreFormsOf source forms
  pub accepted : AreAccepted p forms
  pub spelled : bytes ≡ five_spellings forms

-- ---- the table of one right

-- the word that distinguishes the name of a group from all others
abbrev pub group_word : Bool → List ℕ
group_word true = codes "GROUP"
group_word false = codes "-"

-- the place in the given list, from 0, the kind, whether the who is the name of a group, and the who, with one space
-- between them, and a line feed
abbrev pub row_line : TableRow → List ℕ
row_line r = decimal r.source ++ space ∷ (kind_name r.kind ++ space ∷ (group_word r.group ++ space ∷ (r.who
    ++ line_feed ∷ [])))

-- the lines of the rows in order
abbrev pub rows_text : List TableRow → List ℕ
rows_text rows = flat_map row_line rows

-- the rows of a list at a right: one for each ACE of the list's normal form that has it, in order; for no right there
-- is none
abbrev pub AreTableOf : ℕ → List Ace → List TableRow → Type 0
AreTableOf right list rows = ((bit : ℕ) → IsLowest bit right → IsTableOf bit list rows) × (right ≡ 0 → rows ≡ [])

-- the input is one accepted list of the profile and nothing more, and the text is that of its rows at the right
pub record Tabulates (p : Profile) (right : ℕ) (input text : List ℕ) : Type 0 where
  pub list : List Ace
  pub rows : List TableRow
  pub spelled : Xdr p list input
  pub are : AreTableOf right list rows
  pub is : text ≡ rows_text rows
