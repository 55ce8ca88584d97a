-- The mask of a set of entries: the most that users by id and groups can have (acl(5), "ACL ENTRIES"; POSIX.1e
-- draft 17, section 23.1.2).
use Rattle.std.specs.Prelude.{ℕ, bit_and, bit_or, unwrap_or, List, Option, if◌then◌else◌}
use Rattle.std.specs.List.{fold, filter}
use Rattle.std.specs.FinMap as set
use Rattle.acl_posix.specs.Tag.{Tag, mask, is_masked}
use Rattle.acl_posix.specs.Entries.{Entries}

-- the union of the permissions of all entries of the file group class
abbrev pub class_union : List (Tag × ℕ) → ℕ
class_union entries = fold (λ union entry. bit_or union entry.1) 0 (filter (λ entry. is_masked entry.0) entries)

-- the set after MASK is calculated
abbrev pub with_mask : Entries → Entries
with_mask entries = set.insert entries mask (class_union (set.entries entries))

-- what a mask leaves of an entry: for an entry of the file group class the permissions that the mask has too, if there
-- is a mask, and for any other entry all
abbrev pub masked_by : Option ℕ → Tag × ℕ → ℕ
masked_by limit entry = if is_masked entry.0 then bit_and entry.1 (unwrap_or limit entry.1) else entry.1

-- what an entry grants: what the MASK of its set leaves
abbrev pub effective_of : Entries → Tag × ℕ → ℕ
effective_of entries entry = masked_by (set.get entries mask) entry
