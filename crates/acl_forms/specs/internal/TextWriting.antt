-- How the code writes a text of entries (this library's own). No public clause cites it.
use Rattle.std.specs.Prelude.{ℕ, ◌+◌, List, [], ◌∷◌, ◌++◌}
use Rattle.acl_perm.specs.Ascii.{comma, line_feed}
use Rattle.acl_posix.specs.internal.Digits.{most_digits}
use Rattle.acl_nfs4.specs.Ace.{Ace}
use Rattle.acl_forms.specs.NfsWritten.{nfs_entry_text}
use Rattle.acl_forms.specs.ToolsWritten.{tools_entry_text}
use Rattle.acl_forms.specs.declared.style.EntrySeparator.{EntrySeparator}
use Rattle.acl_forms.specs.declared.style.EntrySeparator.TheVariants.{Commas, LineFeeds}
use Rattle.acl_forms.specs.declared.writing.AceTextForm.{AceTextForm}
use Rattle.acl_forms.specs.declared.writing.AceTextForm.TheVariants.{Nfs, Tools}

-- the room for an entry: the longest words, all letters, the longest who, an id, and the bytes between them and at its
-- ends
abbrev pub text_line_room : ℕ
text_line_room = 1080

-- the most bytes of the word of a special identifier
abbrev pub longest_special_word : ℕ
longest_special_word = 9

-- the most bytes of the word of a tag, of a kind, or before a name
abbrev pub longest_word : ℕ
longest_word = 5

-- the letters of permissions
abbrev pub perm_letters : ℕ
perm_letters = 3

-- the most bytes of a colon and the digits of an id
abbrev pub id_room : ℕ
id_room = 1 + most_digits

-- the entry of an ACE in a form
abbrev pub entry_of : AceTextForm → Ace → List ℕ
entry_of Tools a = tools_entry_text a
entry_of (Nfs style) a = nfs_entry_text style.letters a

-- what separates the entries of a form
abbrev pub separator_of : AceTextForm → EntrySeparator
separator_of Tools = LineFeeds
separator_of (Nfs style) = style.separator

-- the bytes between two entries
abbrev pub between : EntrySeparator → List ℕ
between LineFeeds = []
between Commas = comma ∷ []

-- the bytes after each entry
abbrev pub after_each : EntrySeparator → List ℕ
after_each LineFeeds = line_feed ∷ []
after_each Commas = []

-- the entries that are left, with these bytes before the next one
abbrev pub entries_left : AceTextForm → List ℕ → List Ace → List ℕ
entries_left form before [] = []
entries_left form before (a ∷ list) = (before ++ entry_of form a ++ after_each (separator_of form))
    ++ entries_left form (between (separator_of form)) list
