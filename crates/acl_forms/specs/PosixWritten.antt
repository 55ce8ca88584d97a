-- The text of a POSIX ACL in an archive as bsdtar writes it (archive_acl_to_text in the source of libarchive 3.6.2),
-- which is the form of star, and as GNU tar does (acl_to_text(3)); and the ACLs that the text cannot hold.
use Rattle.std.specs.Prelude.{◌==◌, ◌||◌, ◌+◌, ℕ, Bool, true, false, not, List, [], ◌∷◌, ◌++◌, length, nat_lt, Option, None, Some, if◌then◌else◌}
use Rattle.std.specs.FinMap as set
use Rattle.std.specs.List.{flat_map, list_any}
use Rattle.std.specs.Option.{option_or}
use Rattle.std.specs.Str.{bytes_eq}
use Rattle.acl_perm.specs.Ascii.{colon, comma, line_feed}
use Rattle.acl_perm.specs.Lines.{trimmed}
use Rattle.acl_perm.specs.Shown.{perm_text}
use Rattle.acl_posix.specs.Entries.{Entries}
use Rattle.acl_posix.specs.Tag.{Tag, user_obj, user, group_obj, group, mask, other}
use Rattle.acl_posix.specs.Texts.{long_word, qualifier_text}
use Rattle.acl_forms.specs.NfsWritten.{greatest_kept_id}
use Rattle.acl_forms.specs.PosixNames.{NamesOfIds, tag_name}
use Rattle.acl_forms.specs.FirstFault.{first_fault}
use Rattle.acl_forms.specs.ToolsWritten.{is_separator}
use Rattle.acl_forms.specs.declared.fault.FormFault.{FormFault}
use Rattle.acl_forms.specs.declared.fault.FormReason.{FormReason}
use Rattle.acl_forms.specs.declared.fault.FormReason.TheVariants.{Id, Separator, TooLong}
use Rattle.acl_forms.specs.declared.posix_text.style.TarStyle.{TarStyle}
use Rattle.acl_forms.specs.declared.posix_text.style.TarStyle.TheVariants.{Star, Gnu}

-- ---- the text

-- the qualifier of a tag: the name, or else the decimal id, if the tag has one
abbrev pub written_qualifier : Tag → Option (List ℕ) → List ℕ
written_qualifier tag None = qualifier_text tag
written_qualifier tag (Some name) = name

-- the decimal id after the permissions, in an entry whose qualifier is a name
abbrev pub id_field : Tag → Option (List ℕ) → List ℕ
id_field tag None = []
id_field tag (Some name) = colon ∷ qualifier_text tag

-- the word, the qualifier and the permissions of an entry with this name, with colons between them
abbrev pub three_fields : Tag × ℕ → Option (List ℕ) → List ℕ
three_fields e name =
    long_word e.0 ++ colon ∷ (written_qualifier e.0 name ++ colon ∷ perm_text e.1)

-- the comma before an entry: each has one but that of USER_OBJ, which is the first
abbrev pub comma_before : Tag → List ℕ
comma_before user_obj = []
comma_before tag = comma ∷ []

-- an entry with all that belongs to it: for star a comma before it and an id after a name, for GNU tar a line feed
abbrev pub styled : TarStyle → Tag × ℕ → Option (List ℕ) → List ℕ
styled Star e name = comma_before e.0 ++ (three_fields e name ++ id_field e.0 name)
styled Gnu e name = three_fields e name ++ line_feed ∷ []

-- the piece of the text that is an entry
unfoldable pub posix_piece : NamesOfIds → TarStyle → Tag × ℕ → List ℕ
posix_piece names style e = styled style e (tag_name names e.0)

-- USER_OBJ, GROUP_OBJ and OTHER
abbrev pub is_base : Tag → Bool
is_base user_obj = true
is_base (user id) = false
is_base group_obj = true
is_base (group id) = false
is_base mask = false
is_base other = true

-- the pieces of the entries that a test chooses
abbrev pub pieces_if : NamesOfIds → TarStyle → (Tag → Bool) → List (Tag × ℕ) → List ℕ
pieces_if names style chosen entries =
    flat_map (λ e. if chosen e.0 then posix_piece names style e else []) entries

-- the text of entries in canonical order: for star the three base entries come first
abbrev pub entries_text : NamesOfIds → TarStyle → List (Tag × ℕ) → List ℕ
entries_text names Star entries =
    pieces_if names Star is_base entries ++ pieces_if names Star (λ tag. not (is_base tag)) entries
entries_text names Gnu entries = pieces_if names Gnu (λ tag. true) entries

-- the text of an ACL
abbrev pub posix_text : NamesOfIds → TarStyle → Entries → List ℕ
posix_text names style acl = entries_text names style (set.entries acl)

-- ---- the ACLs that the text cannot hold

-- the longest name that is written: this library's own
abbrev pub longest_name : ℕ
longest_name = 1024

-- a byte that ends a field or an entry, or begins a comment, or that no text may have
abbrev pub is_name_separator : ℕ → Bool
is_name_separator b = is_separator b || (b == line_feed) || (b == 0)

-- a name that would not be read again: it has a separator, or a blank at one of its ends
abbrev pub is_cut_name : List ℕ → Bool
is_cut_name name = list_any is_name_separator name || not (bytes_eq (trimmed name) name)

-- why a name cannot be written: it would not be read again, or it is too long
abbrev pub name_reason : List ℕ → Option FormReason
name_reason name =
    if is_cut_name name then Some Separator
    else (if nat_lt longest_name (length name) then Some TooLong else None)

-- why an id cannot be written: libarchive, which reads the form of star, does not keep it
abbrev pub id_reason_of : TarStyle → Tag → Option FormReason
id_reason_of Star (user id) = if nat_lt greatest_kept_id id then Some Id else None
id_reason_of Star (group id) = if nat_lt greatest_kept_id id then Some Id else None
id_reason_of style tag = None

-- the first reason for which the text cannot hold an entry with this name
abbrev pub named_reason : TarStyle → Tag → Option (List ℕ) → Option FormReason
named_reason style tag None = id_reason_of style tag
named_reason style tag (Some name) = option_or (name_reason name) (id_reason_of style tag)

-- why the text cannot hold an entry
abbrev pub posix_entry_fault : NamesOfIds → TarStyle → Tag × ℕ → Option FormReason
posix_entry_fault names style e = named_reason style e.0 (tag_name names e.0)

-- the first entry in canonical order that the text cannot hold
abbrev pub posix_text_fault : NamesOfIds → TarStyle → Entries → Option FormFault
posix_text_fault names style acl = first_fault (posix_entry_fault names style) (set.entries acl)
