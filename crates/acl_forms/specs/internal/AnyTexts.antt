-- A text of ACEs of any type as the code reads it (this library's own). No public clause cites it.
use Rattle.std.specs.Prelude.{◌≡◌, ◌≤◌, ℕ, List, length, Result, Ok}
use Rattle.acl_perm.specs.Profile.{full}
use Rattle.acl_perm.specs.internal.Steps.{◌>>=◌}
use Rattle.acl_nfs4.specs.Limits.{most_weight}
use Rattle.acl_nfs4.specs.Spelling as spelled
use Rattle.acl_nfs4.specs.Spelling.{IsAccepted}
use Rattle.acl_forms.specs.Part.{PlacedAce, any_weight, kept, left_out}
use Rattle.acl_forms.specs.PartTexts.{EntryReader, any_type_rules, nfs_any_entry, tools_any_entry}
use Rattle.acl_forms.specs.internal.TextReading.{ace_rules}
use Rattle.acl_forms.specs.Texts.{TextRules}
use Rattle.acl_forms.specs.declared.ace_text.AceText.{AceText}
use Rattle.acl_forms.specs.declared.ace_text.AceText.TheVariants.{Nfs, Tools}
use Rattle.acl_forms.specs.declared.fault.ReadFault.{ReadFault}
use Rattle.acl_forms.specs.declared.part.texts.TextPart.{TextPart}

-- what reads an entry in a form
abbrev pub any_entry_of : AceText → EntryReader
any_entry_of (Tools object) = tools_any_entry object
any_entry_of (Nfs source) = nfs_any_entry source

-- the rules of a form for ACEs of any type
abbrev pub any_text_rules : AceText → TextRules PlacedAce
any_text_rules form = any_type_rules (ace_rules form) (any_entry_of form)

-- what is kept and left out is that of these ACEs
pub record HoldsPart (part : TextPart) (whole : List PlacedAce) : Type 0 where
  pub kept : part.list ≡ kept whole
  pub left_out : part.left_out.items ≡ left_out whole
  pub count : part.count ≡ length whole
  pub weight : part.weight ≡ any_weight whole
  pub light : part.weight ≤ most_weight
  pub accepted : IsAccepted full part.list
  pub few : length part.list ≤ part.count
  pub heavy : spelled.weight part.list ≤ part.weight

-- no flags, and the ACEs that a text spells
abbrev pub without_flags : Result (List PlacedAce) ReadFault → Result (ℕ × List PlacedAce) ReadFault
without_flags read = read >>= λ whole. Ok (0, whole)
