-- How the code writes the text of a POSIX ACL, pass by pass (this library's own). No public clause cites it.
use Rattle.std.specs.Prelude.{◌≤◌, ℕ, ◌+◌, Bool, true, not, List, [], length, Option, None, Some, if◌then◌else◌}
use Rattle.acl_posix.specs.Tag.{Tag}
use Rattle.acl_forms.specs.PosixNames.{NamesOfIds}
use Rattle.acl_forms.specs.PosixWritten.{is_base, longest_name, posix_piece}
use Rattle.acl_forms.specs.declared.posix_text.style.TarStyle.{TarStyle}
use Rattle.acl_forms.specs.declared.posix_text.writer.Pass.{Pass}
use Rattle.acl_forms.specs.declared.posix_text.writer.Pass.TheVariants.{All, Base, Others}
use Rattle.acl_forms.specs.internal.TextWriting.{longest_word, perm_letters}

-- the test of the entries of a pass
abbrev pub chosen : Pass → Tag → Bool
chosen All = λ tag. true
chosen Base = is_base
chosen Others = λ tag. not (is_base tag)

-- the piece of an entry, or nothing if a test leaves it out
abbrev pub piece_if : NamesOfIds → TarStyle → (Tag → Bool) → Tag × ℕ → List ℕ
piece_if names style test e = if test e.0 then posix_piece names style e else []

-- the most bytes of the longest word, a name and three permissions, with two colons between them
abbrev pub named_room : ℕ
named_room = longest_word + 1 + longest_name + 1 + perm_letters

-- a name, if there is one, has room in a line
abbrev pub IsShortName : Option (List ℕ) → Type 0
IsShortName None = Unit {0}
IsShortName (Some name) = length name ≤ longest_name
