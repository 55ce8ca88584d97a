-- How the code puts a text together, one entry after the other (this library's own). What public clauses say about the
-- texts is in Texts.
use Rattle.std.specs.Prelude.{ℕ, ◌≡◌, ◌+◌, ◌^◌, Bool, true, false, List, [], ◌∷◌, ◌++◌, codes, drop, length, Option, Some, None, if◌then◌else◌}
use Rattle.std.specs.FinMap as set
use Rattle.acl_perm.specs.Ascii.{line_feed}
use Rattle.acl_posix.specs.declared.form.AclTextForm.{AclTextForm}
use Rattle.acl_posix.specs.declared.form.AclTextForm.TheVariants.{Canonical, Shown, Short}
use Rattle.acl_posix.specs.declared.text_fault.Part.{Part}
use Rattle.acl_posix.specs.declared.text_fault.Part.TheVariants.{Access, Default}
use Rattle.acl_posix.specs.Tag.{Tag}
use Rattle.acl_posix.specs.Entries.{Entries}
use Rattle.acl_posix.specs.Mask.{effective_of}
use Rattle.acl_posix.specs.internal.Digits.{most_digits}
use Rattle.acl_posix.specs.Texts.{long_word, short_word, entry_text, mark_text}

-- the bytes of a line of the code: room for the longest text of an entry
abbrev pub line_room : ℕ
line_room = 64

-- the bytes of a colon and permissions
abbrev pub perm_room : ℕ
perm_room = 4

-- the most bytes of a qualifier: the digits of an id
abbrev pub qualifier_room : ℕ
qualifier_room = most_digits

-- the most bytes of the word of a tag and a colon: those of `group:`
abbrev pub word_room : ℕ
word_room = 6

-- the most bytes after an entry: those of a mark (a tab, `#effective`, a colon and permissions) and a line feed
abbrev pub ending_room : ℕ
ending_room = 16

-- the most bytes before an entry: those of `default:`
abbrev pub lead_room : ℕ
lead_room = 8

-- the bytes of a part are fewer: there are at most two entries for each id, and a few others
abbrev pub part_limit : ℕ
part_limit = 2 ^ 62

-- bytes are put in front of those from a place on
pub record IsPut (bytes old new : List ℕ) (end start : ℕ) : Type 0 where
  pub begins : start + length bytes ≡ end
  pub written : drop start new ≡ bytes ++ drop end old

-- the bytes before an entry: a comma before each entry of a short text except the first, and the mark of a default
-- entry
abbrev pub entry_lead : AclTextForm → Part → Bool → List ℕ
entry_lead Canonical Access first = []
entry_lead Canonical Default first = codes "default:"
entry_lead Shown Access first = []
entry_lead Shown Default first = codes "default:"
entry_lead Short Access first = if first then [] else codes ","
entry_lead Short Default first = if first then codes "d:" else codes ",d:"

-- the word of a tag, in full or as its first letter
abbrev pub form_word : AclTextForm → Tag → List ℕ
form_word Canonical tag = long_word tag
form_word Shown tag = long_word tag
form_word Short tag = short_word tag

-- the bytes after the fields of an entry
abbrev pub ending : AclTextForm → ℕ → ℕ → List ℕ
ending Canonical effective perm = line_feed ∷ []
ending Shown effective perm = mark_text effective perm ++ line_feed ∷ []
ending Short effective perm = []

-- what is written for an entry: the bytes before it, its fields, and the bytes after it
unfoldable pub entry_out : AclTextForm → Part → Bool → ℕ → Tag × ℕ → List ℕ
entry_out form part first effective entry =
    entry_lead form part first ++ (entry_text (form_word form entry.0) entry ++ ending form effective entry.1)

-- what is written for the entries of a part
abbrev pub part_out : AclTextForm → Part → Entries → Bool → List (Tag × ℕ) → List ℕ
part_out form part acl first [] = []
part_out form part acl first (entry ∷ entries) =
    entry_out form part first (effective_of acl entry) entry ++ part_out form part acl false entries

-- what is written for the default part, if there is one
abbrev pub default_out : AclTextForm → Option Entries → List ℕ
default_out form None = []
default_out form (Some acl) = part_out form Default acl false (set.entries acl)

-- what is written for a file
abbrev pub text_out : AclTextForm → Entries → Option Entries → List ℕ
text_out form access default = part_out form Access access true (set.entries access) ++ default_out form default
