-- The limits of this library on a list of ACEs (its own: RFC 8881 has no limits).
use Rattle.std.specs.Prelude.{ℕ, ◌^◌}

-- the greatest number of ACEs in a list
abbrev pub most_aces : ℕ
most_aces = 65536

-- the greatest number of mask bits that are set, over all ACEs of a list
abbrev pub most_weight : ℕ
most_weight = 65536

-- the greatest number of bytes in a who
abbrev pub longest_who : ℕ
longest_who = 1024

-- the spelling of each list has fewer bytes than this, as follows from the limits above
abbrev pub spelling_limit : ℕ
spelling_limit = 2 ^ 31
