-- What calls from C make of the text of POSIX ACLs (this library's own, over acl(5)).
use Rattle.std.specs.Prelude.{◌≡◌, ◌⊎◌, ℕ, List, None, Option, Some, codes}
use Rattle.acl_posix.specs.Grammar.{Reads}
use Rattle.acl_posix.specs.Names.{Table}
use Rattle.acl_posix.specs.TextFault.{IsTextFault}
use Rattle.acl_posix.specs.Programs.{MakesOfFile, chmod_text, created_text, file_text}
use Rattle.acl_posix.specs.declared.file.PosixFile.{PosixFile}
use Rattle.acl_posix.specs.declared.form.AclTextForm.{AclTextForm}
use Rattle.acl_posix.specs.declared.tag.Tag.{Tag}
use Rattle.acl_posix.specs.declared.tag.Tag.TheVariants as tag
use Rattle.acl_posix.specs.declared.text_fault.Cause.{Cause}
use Rattle.acl_posix.specs.declared.text_fault.Cause.TheVariants as cause
use Rattle.acl_posix.specs.declared.text_fault.Part.{Part}
use Rattle.acl_posix.specs.declared.text_fault.Part.TheVariants as part
use Rattle.acl_posix.specs.declared.text_fault.TextFault.{TextFault}
use Rattle.acl_posix.specs.declared.text_fault.TextFault.TheVariants as fault
use Rattle.acl_eval.specs.Programs.{IsPastLimits}
use Rattle.aclck_c.specs.Names.{AreNames}
use Rattle.aclck_c.specs.Options.{directory_option, form_from, has_option}
use Rattle.aclck_c.specs.Refusal.{at_place, in_part, past_limits}
use Rattle.aclck_c.specs.Words.{reason_called}
use Rattle.aclck_c.specs.declared.posix.creation.RawCreation.{RawCreation}
use Rattle.aclck_c.specs.declared.posix.file.RawPosixText.{RawPosixText}
use Rattle.aclck_c.specs.declared.refusal.Refusal.{Refusal}

-- ---- what is read

-- the names make a table, with which the text spells this file
pub record SpellsFile (given : RawPosixText) (file : PosixFile) : Type 0 where
  pub table : Table
  pub named : AreNames given.names.now table
  pub reads : Reads given.text.now table file

-- the names make a table, with which the text has this fault
pub record HasTextFault (given : RawPosixText) (f : TextFault) : Type 0 where
  pub table : Table
  pub named : AreNames given.names.now table
  pub has : IsTextFault given.text.now table f

-- ---- what is made

-- options mean a form, and the result is the text of the file in that form
pub record IsShown (given : RawPosixText) (options : ℕ) (result : List ℕ) : Type 0 where
  pub form : AclTextForm
  pub is_form : form_from options ≡ Some form
  pub makes : MakesOfFile (SpellsFile given) (file_text form) result

-- the result is the canonical text of the file after its mode is set
abbrev pub IsWithMode : RawPosixText → ℕ → List ℕ → Type 0
IsWithMode given mode = MakesOfFile (SpellsFile given) (chmod_text mode)

-- the result is the canonical text of a new object in the directory
abbrev pub IsCreated : RawPosixText → RawCreation → List ℕ → Type 0
IsCreated given c =
    MakesOfFile (SpellsFile given) (created_text c.mode c.umask (has_option directory_option c.options))

-- ---- what is refused

-- the number of a tag in `enum aclck_tag`
abbrev pub tag_number : Tag → ℕ
tag_number tag.UserObj = 1
tag_number (tag.User id) = 2
tag_number tag.GroupObj = 3
tag_number (tag.Group id) = 4
tag_number tag.Mask = 5
tag_number tag.Other = 6

-- the number of a part in `enum aclck_part`
abbrev pub part_number : Part → ℕ
part_number part.Access = 0
part_number part.Default = 1

-- the cause for which the part of this number is not a valid ACL, by numbers
abbrev pub invalid_refusal : ℕ → Cause → Refusal
invalid_refusal which (cause.Multi place) = in_part (reason_called (codes "Multi")) which place 0
invalid_refusal which (cause.Duplicate place) = in_part (reason_called (codes "Duplicate")) which place 0
invalid_refusal which (cause.Miss absent) = in_part (reason_called (codes "Miss")) which 0 (tag_number absent)

-- the fault of a text, by numbers; none if memory ran out
abbrev pub posix_refusal : TextFault → Option Refusal
posix_refusal (fault.Fields line column) = Some (at_place (reason_called (codes "Fields")) line column)
posix_refusal (fault.Tag line column) = Some (at_place (reason_called (codes "Tag")) line column)
posix_refusal (fault.Qualifier line column) = Some (at_place (reason_called (codes "Qualifier")) line column)
posix_refusal (fault.Id line column) = Some (at_place (reason_called (codes "Id")) line column)
posix_refusal (fault.UnknownName line column) = Some (at_place (reason_called (codes "UnknownName")) line column)
posix_refusal (fault.Permission line column) = Some (at_place (reason_called (codes "Permission")) line column)
posix_refusal (fault.EmptyEntry line column) = Some (at_place (reason_called (codes "EmptyEntry")) line column)
posix_refusal (fault.Invalid which why) = Some (invalid_refusal (part_number which) why)
posix_refusal fault.Memory = None

-- the text has this fault
pub record IsRefusedPosix (given : RawPosixText) (shown : Refusal) : Type 0 where
  pub fault : TextFault
  pub has : HasTextFault given fault
  pub is : Some shown ≡ posix_refusal fault

-- the text has this fault, or the list of its file is above a limit
abbrev pub IsRefusedBridge : RawPosixText → Refusal → Type 0
IsRefusedBridge given shown =
    IsRefusedPosix given shown ⊎ (IsPastLimits (SpellsFile given) × (shown ≡ past_limits))
