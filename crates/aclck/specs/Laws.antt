-- Laws of the commands, over their definitions alone (this library's own).
use Rattle.std.specs.Prelude.{◌≡◌, ◌↔◌, List, ℕ}
use Rattle.std.specs.List.{AllByRecursion}
use Rattle.acl_perm.specs.Profile.{Profile}
use Rattle.acl_nfs4.specs.Ace.{Ace}
use Rattle.acl_nfs4.specs.AceText.{IsAceText, ace_text}
use Rattle.acl_nfs4.specs.Spelling.{Xdr, spelling}
use Rattle.acl_nfs4.specs.Within.{IsProfile}
use Rattle.acl_eval.specs.Grant.{SameGrants}
use Rattle.acl_normal.specs.FiveForms.{five_lists, five_spellings}
use Rattle.acl_normal.specs.NormalForm.{Normalizes}
use Rattle.acl_normal.specs.Paths.{SameAtEveryPath}
use Rattle.acl_normal.specs.declared.five_forms.FiveForms.{FiveForms}
use Rattle.acl_posix.specs.Grammar.{Reads}
use Rattle.acl_posix.specs.Names.{Table, IsNameTable}
use Rattle.acl_posix.specs.declared.file.PosixFile.{PosixFile}
use Rattle.aclck.specs.Answer.{done}
use Rattle.aclck.specs.commands.Encode.{EncodeAnswer}
use Rattle.aclck.specs.commands.Normalize.{NormalizeAnswer, NormalizeInheritAnswer}
use Rattle.aclck.specs.commands.ShowNfs.{ShowNfsAnswer}
use Rattle.aclck.specs.commands.ShowPosix.{ShowPosixAnswer}
use Rattle.aclck.specs.declared.answer.Outcome.TheVariants as outcome
use Rattle.acl_posix.specs.declared.form.AclTextForm.TheVariants as form

-- what `show-posix` makes of an input in the canonical form is this text
abbrev pub ShowsCanonical : Table → List ℕ → List ℕ → Type 0
ShowsCanonical names input text =
    ShowPosixAnswer (record { form = form.Canonical; names = names }) input (done outcome.Yes text)

-- two texts of files, each with its names, get the same canonical text if and only if the entries of both parts are
-- equal
abbrev pub ShowPosixTellsApart : Type 0
ShowPosixTellsApart =
    (names other_names : Table) (input other_input text other_text : List ℕ) (file other : PosixFile)
    → IsNameTable names → IsNameTable other_names → Reads input names file → Reads other_input other_names other
    → ShowsCanonical names input text → ShowsCanonical other_names other_input other_text
    → (text ≡ other_text) ↔ (file.access ≡ other.access) × (file.default ≡ other.default)

-- `show-nfs` makes bytes into a text that `encode` accepts, and `encode` makes this text into these bytes and no others
abbrev pub EncodeUndoesShow : Type 0
EncodeUndoesShow = (p : Profile) (input text bytes : List ℕ) → IsProfile p
    → ShowNfsAnswer p input (done outcome.Yes text)
    → EncodeAnswer p text (done outcome.Yes bytes) ↔ (bytes ≡ input)

-- `encode` makes the text of a list into bytes that `show-nfs` accepts, and `show-nfs` makes these bytes into the
-- written text of that list and no other
abbrev pub ShowUndoesEncode : Type 0
ShowUndoesEncode = (p : Profile) (input bytes text : List ℕ) (list : List Ace) → IsProfile p → IsAceText p list input
    → EncodeAnswer p input (done outcome.Yes bytes)
    → ShowNfsAnswer p bytes (done outcome.Yes text) ↔ (text ≡ ace_text list)

-- two inputs that each spell a list of a profile get equal bytes if and only if the lists are the same for the rights
-- of the profile
abbrev pub TellsListsApart : (Profile → List ℕ → List ℕ → Type 0) → (ℕ → List Ace → List Ace → Type 0) → Type 0
TellsListsApart Gets Same =
    (p : Profile) (list other : List Ace) (input other_input output other_output : List ℕ) → IsProfile p
    → Xdr p list input → Xdr p other other_input → Gets p input output → Gets p other_input other_output
    → (output ≡ other_output) ↔ Same p.masks list other

-- `normalize` distinguishes lists by what they grant: in every situation, for every mask within the profile, both lists
-- grant or both deny
abbrev pub NormalizeTellsApart : Type 0
NormalizeTellsApart = TellsListsApart (λ p input output. NormalizeAnswer p input (done outcome.Yes output)) SameGrants

-- `normalize` returns its own output unchanged
abbrev pub NormalizeTwice : Type 0
NormalizeTwice = (p : Profile) (input once twice : List ℕ) → IsProfile p
    → NormalizeAnswer p input (done outcome.Yes once)
    → NormalizeAnswer p once (done outcome.Yes twice) ↔ (twice ≡ once)

-- `normalize --inherit` distinguishes lists by what they grant at every path of creations
abbrev pub NormalizeInheritTellsApart : Type 0
NormalizeInheritTellsApart =
    TellsListsApart (λ p input output. NormalizeInheritAnswer p input (done outcome.Yes output)) SameAtEveryPath

-- the text is five lists, one after the other, each of which is its own normal form
pub record IsFiveForms (p : Profile) (text : List ℕ) : Type 0 where
  pub forms : FiveForms
  pub parts : text ≡ five_spellings forms
  pub own : AllByRecursion (λ form. Normalizes p (spelling form) (spelling form)) (five_lists forms)

-- what `normalize --inherit` makes of bytes is five lists, one after the other, and `normalize` leaves each of the five
-- unchanged
abbrev pub NormalizeInheritGivesForms : Type 0
NormalizeInheritGivesForms = (p : Profile) (input output : List ℕ) → IsProfile p
    → NormalizeInheritAnswer p input (done outcome.Yes output) → IsFiveForms p output
