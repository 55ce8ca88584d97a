-- Entries as single numbers, which the code sorts in place of entries (this library's own).
use Rattle.std.specs.Prelude.{ℕ, ◌+◌, ◌*◌, ◌/◌, ◌%◌, ◌^◌, ◌≡◌}
use Rattle.acl_posix.specs.Tag.{Tag, rank, qualifier}
use Rattle.acl_posix.specs.Entries.{IsEntry}
use Rattle.acl_posix.specs.internal.TagCode.{tag_from}

-- how many numbers can be a qualifier
abbrev pub qualifier_count : ℕ
qualifier_count = 2 ^ 32

-- the most entries that an ACL can have: one for each of the six tag types and each number of 32 bits
abbrev pub most_entries : ℕ
most_entries = 25769803776

-- how many sets of permissions there are
abbrev pub perm_count : ℕ
perm_count = 2 ^ 3

-- the rank of the tag, its qualifier, and the permissions, in one number
unfoldable pub packed : Tag × ℕ → ℕ
packed entry = (rank entry.0 * qualifier_count + qualifier entry.0) * perm_count + entry.1

-- the entry that a number means
unfoldable pub unpacked : ℕ → Tag × ℕ
unpacked key =
    (tag_from (key / perm_count / qualifier_count) (key / perm_count % qualifier_count), key % perm_count)

-- the number means an entry
pub record IsPacked (key : ℕ) : Type 0 where
  pub entry : IsEntry (unpacked key)
  pub again : packed (unpacked key) ≡ key
