-- Sets of entries in which no tag and qualifier occur twice (POSIX.1e draft 17, section 23.1.2).
use Rattle.std.specs.Prelude.{ℕ, List, map}
use Rattle.std.specs.List.Sorted.{IsStrictlySortedBy}
use Rattle.std.specs.FinMap as set
use Rattle.acl_perm.specs.Bits.{IsPerm}
use Rattle.acl_posix.specs.declared.entry.Entry.{Entry}
use Rattle.acl_posix.specs.Tag.{Tag, tag_of, tag_cmp, IsTag}

-- the value of each tag: no entry, or permissions with read 4, write 2, execute 1
abbrev pub Entries : Type 0
Entries = set.FinMap tag_cmp ℕ

-- an entry as its tag and permissions
abbrev pub pair_of : Entry → Tag × ℕ
pair_of entry = (tag_of entry.tag, entry.perm.bits)

-- the entries of a list, in their order
abbrev pub pairs : List Entry → List (Tag × ℕ)
pairs entries = map pair_of entries

-- the tags of a list of entries, in their order
abbrev pub tags : List (Tag × ℕ) → List Tag
tags entries = map (λ entry. entry.0) entries

-- the set of the entries of a list
abbrev pub as_set : List (Tag × ℕ) → Entries
as_set entries = set.from_entries entries

-- a list in canonical order: each tag is less than the next, so none occurs twice
abbrev pub IsSorted : List (Tag × ℕ) → Type 0
IsSorted entries = IsStrictlySortedBy tag_cmp (tags entries)

-- the id and the permissions of an entry are within their limits
abbrev pub IsEntry : Tag × ℕ → Type 0
IsEntry entry = IsTag entry.0 × (IsPerm entry.1)
