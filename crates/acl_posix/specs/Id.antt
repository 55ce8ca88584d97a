-- The ids of users and groups, the qualifiers of USER and GROUP entries (acl(5), "ACL ENTRIES").
use Rattle.std.specs.Prelude.{ℕ, ◌≤◌}

-- the greatest id: the number above it is not an id
abbrev pub greatest_id : ℕ
greatest_id = 4294967294

-- the number is the id of a user or a group
abbrev pub IsId : ℕ → Type 0
IsId n = n ≤ greatest_id
