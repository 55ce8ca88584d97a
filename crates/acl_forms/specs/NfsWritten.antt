-- The text of a list as libarchive prints it with ids, in four styles, but with a line feed after the last entry too
-- where no comma separates the entries (archive_acl_to_text in the source of libarchive 3.6.2); and the lists that this
-- text cannot hold. The reasons, and their order, are this library's own.
use Rattle.std.specs.Prelude.{◌≡◌, ◌||◌, ◌+◌, ◌-◌, ℕ, Bool, false, not, List, [], ◌∷◌, ◌++◌, codes, map, nat_lt, bit_and, ◌==◌, Option, None, Some, if◌then◌else◌}
use Rattle.std.specs.List.{flat_map, list_any}
use Rattle.std.specs.Str.{bytes_eq}
use Rattle.acl_perm.specs.Ascii.{colon, comma, hyphen, line_feed}
use Rattle.acl_perm.specs.Bits.{all_flags, identifier_group_alone}
use Rattle.acl_perm.specs.Lines.{trimmed}
use Rattle.acl_perm.specs.declared.kind.Kind.{Kind}
use Rattle.acl_perm.specs.declared.kind.Kind.TheVariants.{Deny, Allow}
use Rattle.acl_nfs4.specs.Ace.{Ace}
use Rattle.acl_nfs4.specs.Who.{everyone_name, group_name, is_special, owner_name}
use Rattle.acl_forms.specs.Acl41Ids.{id_of_digits}
use Rattle.acl_forms.specs.Letters.{nfs_flag_letters, nfs_right_letters}
use Rattle.acl_forms.specs.NfsText.{is_odd_number}
use Rattle.acl_forms.specs.FirstFault.{first_fault}
use Rattle.acl_forms.specs.ToolsWritten.{is_separator, letters_of, meets, retention_rights}
use Rattle.acl_forms.specs.declared.fault.FormFault.{FormFault}
use Rattle.acl_forms.specs.declared.fault.FormReason.{FormReason}
use Rattle.acl_forms.specs.declared.fault.FormReason.TheVariants.{Id, Retention, Separator}
use Rattle.acl_forms.specs.declared.letters.Letter.{Letter}
use Rattle.acl_forms.specs.declared.style.EntrySeparator.{EntrySeparator}
use Rattle.acl_forms.specs.declared.style.EntrySeparator.TheVariants.{Commas, LineFeeds}
use Rattle.acl_forms.specs.declared.style.LetterStyle.{LetterStyle}
use Rattle.acl_forms.specs.declared.style.LetterStyle.TheVariants.{Compact, Full}
use Rattle.acl_forms.specs.declared.style.Style.{Style}

-- ---- the text

-- the letter of a row, or a hyphen if a set does not have its bits
abbrev pub letter_or_hyphen : ℕ → Letter → ℕ
letter_or_hyphen set row = if bit_and set row.bits == row.bits then row.letter else hyphen

-- the letters of the rows whose bits a set has, alone or with a hyphen for each other row
abbrev pub styled_letters : LetterStyle → List Letter → ℕ → List ℕ
styled_letters Compact table set = letters_of table set
styled_letters Full table set = map (letter_or_hyphen set) table

-- the word of a special identifier
abbrev pub special_word : List ℕ → Option (List ℕ)
special_word who = if bytes_eq who owner_name then Some (codes "owner@")
    else (if bytes_eq who group_name then Some (codes "group@")
    else (if bytes_eq who everyone_name then Some (codes "everyone@") else None))

-- the word before a name: `group` for an ACE with IDENTIFIER_GROUP, and otherwise `user`
abbrev pub account_word : ℕ → List ℕ
account_word flags = if meets flags identifier_group_alone then codes "group" else codes "user"

-- the principal of an ACE, by the word of its special identifier, if it has one
abbrev pub principal_text : Ace → Option (List ℕ) → List ℕ
principal_text a (Some word) = word
principal_text a None = account_word a.flags ++ colon ∷ a.who

-- `allow` or `deny`
abbrev pub kind_word : Kind → List ℕ
kind_word Allow = codes "allow"
kind_word Deny = codes "deny"

-- the id after an entry, which is there if the who is the decimal digits of an id
abbrev pub id_after : List ℕ → Option ℕ → List ℕ
id_after who None = []
id_after who (Some id) = colon ∷ who

-- the entry of an ACE; no special identifier is digits
unfoldable pub nfs_entry_text : LetterStyle → Ace → List ℕ
nfs_entry_text letters a = principal_text a (special_word a.who)
    ++ colon ∷ (styled_letters letters (nfs_right_letters []) a.mask
    ++ colon ∷ (styled_letters letters (nfs_flag_letters []) a.flags
    ++ colon ∷ (kind_word a.kind ++ id_after a.who (id_of_digits a.who))))

-- the entries of ACEs in order: with a line feed after each, or with a comma between two of them
abbrev pub separated : EntrySeparator → (Ace → List ℕ) → List Ace → List ℕ
separated LineFeeds entry list = flat_map (λ a. entry a ++ line_feed ∷ []) list
separated Commas entry [] = []
separated Commas entry (a ∷ list) = entry a ++ flat_map (λ b. comma ∷ entry b) list

-- the text of a list in a style
abbrev pub nfs_text : Style → List Ace → List ℕ
nfs_text style list = separated style.separator (nfs_entry_text style.letters) list

-- the flags that are written: not IDENTIFIER_GROUP of a special identifier, where the flag has no effect
abbrev pub kept_flags : List ℕ → ℕ → ℕ
kept_flags who flags = if is_special who then bit_and flags (all_flags - identifier_group_alone) else flags

-- the ACE that the entry spells
abbrev pub as_nfs_written : Ace → Ace
as_nfs_written a = record { kind = a.kind; flags = kept_flags a.who a.flags; mask = a.mask; who = a.who }

-- two ACEs that differ at most in IDENTIFIER_GROUP of a special identifier
pub record IsSameButSpecialGroup (a b : Ace) : Type 0 where
  pub kind : a.kind ≡ b.kind
  pub mask : a.mask ≡ b.mask
  pub who : a.who ≡ b.who
  pub flags : kept_flags a.who a.flags ≡ kept_flags b.who b.flags

-- ---- the lists that the text cannot hold

-- a who that would not be read again: it has a byte that separates fields, or a blank at one of its ends
abbrev pub is_cut_who : List ℕ → Bool
is_cut_who who = list_any is_separator who || not (bytes_eq (trimmed who) who)

-- libarchive reads an id that is greater as this one
abbrev pub greatest_kept_id : ℕ
greatest_kept_id = 2147483647

-- an id that libarchive does not keep
abbrev pub is_id_cut : Option ℕ → Bool
is_id_cut None = false
is_id_cut (Some id) = nat_lt greatest_kept_id id

-- digits that libarchive reads as another id
abbrev pub is_other_id : List ℕ → Bool
is_other_id who = is_odd_number who || is_id_cut (id_of_digits who)

-- the first reason for which the form cannot hold an ACE
abbrev pub nfs_ace_fault : Ace → Option FormReason
nfs_ace_fault a = if meets a.mask retention_rights then Some Retention
    else (if is_cut_who a.who then Some Separator
    else (if is_other_id a.who then Some Id else None))

-- the first ACE that the form cannot hold
abbrev pub nfs_text_fault : List Ace → Option FormFault
nfs_text_fault list = first_fault nfs_ace_fault list
