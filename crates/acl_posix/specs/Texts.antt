-- The texts of the ACLs of a file, as functions of the sets of entries alone (acl(5), "LONG TEXT FORM" and "SHORT TEXT
-- FORM"). It is this library's own that ids are decimal, and where the effective permissions are shown.
use Rattle.std.specs.Prelude.{ℕ, ◌==◌, List, [], ◌∷◌, ◌++◌, codes, decimal, map, take, Option, Some, None, option_map, unwrap_or, if◌then◌else◌}
use Rattle.std.specs.List.{flat_map, join_with_byte, All}
use Rattle.std.specs.FinMap as set
use Rattle.acl_perm.specs.Ascii.{colon, comma, line_feed, tab}
use Rattle.acl_perm.specs.Shown.{perm_text}
use Rattle.acl_posix.specs.declared.file.PosixFile.{PosixFile}
use Rattle.acl_posix.specs.declared.form.AclTextForm.{AclTextForm}
use Rattle.acl_posix.specs.declared.form.AclTextForm.TheVariants.{Canonical, Shown, Short}
use Rattle.acl_posix.specs.declared.field.TagWord.{TagWord}
use Rattle.acl_posix.specs.declared.field.TagWord.TheVariants.{User, Group, Mask, Other}
use Rattle.acl_posix.specs.Tag.{Tag, tag_row}
use Rattle.acl_posix.specs.Entries.{Entries, IsEntry}
use Rattle.acl_posix.specs.Valid.{IsValid}
use Rattle.acl_posix.specs.Mask.{effective_of}

-- a tag word, in full
abbrev pub word_text : TagWord → List ℕ
word_text User = codes "user"
word_text Group = codes "group"
word_text Mask = codes "mask"
word_text Other = codes "other"

-- the word of a tag, in full
abbrev pub long_word : Tag → List ℕ
long_word tag = word_text (tag_row tag).word

-- the first letter of the word of a tag
abbrev pub short_word : Tag → List ℕ
short_word tag = take 1 (long_word tag)

-- the id in decimal, or nothing
abbrev pub qualifier_text : Tag → List ℕ
qualifier_text tag = unwrap_or (option_map decimal (tag_row tag).qualifier) []

-- an entry with the word of its tag: word, qualifier and permissions with colons between them
abbrev pub entry_text : List ℕ → Tag × ℕ → List ℕ
entry_text word entry = word ++ colon ∷ (qualifier_text entry.0 ++ colon ∷ perm_text entry.1)

-- an entry in the long form
unfoldable pub long_entry : Tag × ℕ → List ℕ
long_entry entry = entry_text (long_word entry.0) entry

-- an entry in the short form
unfoldable pub short_entry : Tag × ℕ → List ℕ
short_entry entry = entry_text (short_word entry.0) entry

-- an entry of a default ACL in the long form
unfoldable pub long_default : Tag × ℕ → List ℕ
long_default entry = codes "default:" ++ long_entry entry

-- an entry of a default ACL in the short form
unfoldable pub short_default : Tag × ℕ → List ℕ
short_default entry = codes "d:" ++ short_entry entry

-- what follows an entry whose permissions are not its effective ones: a comment with the effective ones
abbrev pub mark_text : ℕ → ℕ → List ℕ
mark_text effective perm = if effective == perm then [] else tab ∷ (codes "#effective:" ++ perm_text effective)

-- what follows an entry that has a permission outside the mask of its ACL
unfoldable pub effective_mark : Entries → Tag × ℕ → List ℕ
effective_mark acl entry = mark_text (effective_of acl entry) entry.1

-- bytes and the line feed that ends their line
abbrev pub line : List ℕ → List ℕ
line bytes = bytes ++ line_feed ∷ []

-- the entries of a default ACL in canonical order, or none if there is no default ACL
abbrev pub default_entries : Option Entries → List (Tag × ℕ)
default_entries None = []
default_entries (Some acl) = set.entries acl

-- the effective permissions in a default ACL
abbrev pub default_mark : Option Entries → Tag × ℕ → List ℕ
default_mark None entry = []
default_mark (Some acl) entry = effective_mark acl entry

-- each entry on a line of its own, in canonical order
unfoldable pub canonical_text : Entries → Option Entries → List ℕ
canonical_text access default =
    flat_map (λ entry. line (long_entry entry)) (set.entries access)
    ++ flat_map (λ entry. line (long_default entry)) (default_entries default)

-- the canonical text, in which the effective permissions follow each entry that loses some to the mask
unfoldable pub shown_text : Entries → Option Entries → List ℕ
shown_text access default =
    flat_map (λ entry. line (long_entry entry ++ effective_mark access entry)) (set.entries access)
    ++ flat_map (λ entry. line (long_default entry ++ default_mark default entry)) (default_entries default)

-- the entries in the short form with commas between them
unfoldable pub short_text : Entries → Option Entries → List ℕ
short_text access default =
    join_with_byte comma (map short_entry (set.entries access) ++ map short_default (default_entries default))

-- the text in a form
abbrev pub form_text : AclTextForm → Entries → Option Entries → List ℕ
form_text Canonical access default = canonical_text access default
form_text Shown access default = shown_text access default
form_text Short access default = short_text access default

-- a set of entries that an ACL can have
pub record IsAcl (acl : Entries) : Type 0 where
  pub valid : IsValid acl
  pub within : All IsEntry (set.entries acl)

-- a default ACL that a file can have
abbrev pub IsDefault : Option Entries → Type 0
IsDefault None = Unit {0}
IsDefault (Some acl) = IsAcl acl

-- the ACLs that a file can have
pub record IsFile (file : PosixFile) : Type 0 where
  pub access : IsAcl file.access
  pub default : IsDefault file.default
