-- What programs make of the text of a file with POSIX ACLs, defined once for all of them (this library's own, over
-- acl(5) and POSIX.1e draft 17, section 23).
use Rattle.std.specs.Prelude.{◌≡◌, ◌∷◌, ◌++◌, [], ℕ, Bool, List}
use Rattle.acl_perm.specs.Lines.{line_feed}
use Rattle.acl_posix.specs.Check.{Object, Requester, grants}
use Rattle.acl_posix.specs.Create.{created_access, created_default}
use Rattle.acl_posix.specs.Mask.{with_mask}
use Rattle.acl_posix.specs.Mode.{chmoded}
use Rattle.acl_posix.specs.Texts.{canonical_text, short_text, shown_text}
use Rattle.acl_posix.specs.declared.file.PosixFile.{PosixFile}
use Rattle.acl_posix.specs.declared.form.AclTextForm.{AclTextForm}
use Rattle.acl_posix.specs.declared.form.AclTextForm.TheVariants.{Canonical, Short, Shown}

-- ---- texts of a file

-- the text of a file in a form; the short text has a line feed after it
abbrev pub file_text : AclTextForm → PosixFile → List ℕ
file_text Canonical file = canonical_text file.access file.default
file_text Shown file = shown_text file.access file.default
file_text Short file = short_text file.access file.default ++ line_feed ∷ []

-- the canonical text of a file with the mask of its access ACL calculated (POSIX.1e draft 17, section 23.4); the
-- default ACL stays
abbrev pub masked_text : PosixFile → List ℕ
masked_text file = canonical_text (with_mask file.access) file.default

-- the canonical text of a file with the mode of its access ACL set (acl(5), "CORRESPONDENCE BETWEEN ACL ENTRIES AND
-- FILE PERMISSION BITS"); the default ACL stays
abbrev pub chmod_text : ℕ → PosixFile → List ℕ
chmod_text mode file = canonical_text (chmoded file.access mode) file.default

-- the canonical text of a new object in a directory with the ACLs of this file (acl(5), "OBJECT CREATION AND DEFAULT
-- ACLs")
abbrev pub created_text : ℕ → ℕ → Bool → PosixFile → List ℕ
created_text mode umask is_directory file =
    canonical_text (created_access file.default mode umask) (created_default file.default is_directory)

-- ---- what is made of an input, which is the text of a file if `Spells` says so

-- the input spells a file, and this text is made of that file
pub record MakesOfFile (Spells : PosixFile → Type 0) (made : PosixFile → List ℕ) (text : List ℕ) : Type 0 where
  pub file : PosixFile
  pub read : Spells file
  pub is : text ≡ made file

-- the input spells a file, and this is whether its access ACL grants the request
pub record Checks (Spells : PosixFile → Type 0) (object : Object) (requester : Requester) (want : ℕ) (granted : Bool)
    : Type 0 where
  pub file : PosixFile
  pub read : Spells file
  pub answer : granted ≡ grants file.access object requester want
