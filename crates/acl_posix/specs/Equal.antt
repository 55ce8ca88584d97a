-- When two sets of entries, and the ACLs of two files, are equal, as a test (this library's own): they have the same
-- entries, in canonical order, by tag and permissions.
use Rattle.std.specs.Prelude.{ℕ, Bool, List, [], ◌∷◌, nat_eq, Option, Some, None}
use Rattle.std.specs.Cmp.Lexicographic.{pointwise}
use Rattle.std.specs.Ordering.{on, eq_of_both, eq_by_cmp}
use Rattle.std.specs.FinMap as set
use Rattle.acl_posix.specs.declared.file.PosixFile.{PosixFile}
use Rattle.acl_posix.specs.Tag.{Tag, tag_cmp}
use Rattle.acl_posix.specs.Entries.{Entries}

-- two entries have the same tag and the same permissions
abbrev pub same_entry : Tag × ℕ → Tag × ℕ → Bool
same_entry = eq_of_both (on (λ entry. entry.0) (eq_by_cmp tag_cmp)) (on (λ entry. entry.1) nat_eq)

-- two sets have the same entries
abbrev pub same_set : Entries → Entries → Bool
same_set = on set.entries (pointwise same_entry)

-- the default ACL of a file as a list, which is empty if the file has none
abbrev pub default_acls : Option Entries → List Entries
default_acls None = []
default_acls (Some acl) = acl ∷ []

-- the access ACL of a file, and its default ACL if it has one
abbrev pub acls_of : PosixFile → List Entries
acls_of file = file.access ∷ default_acls file.default

-- two files have the same ACLs
abbrev pub same_file : PosixFile → PosixFile → Bool
same_file = on acls_of (pointwise same_set)
