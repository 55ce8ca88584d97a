-- Sets of bits, as numbers (this library's own; the sets of all rights and of all flags are of RFC 8881, sections
-- 6.2.1.3.1 and 6.2.1.4).
use Rattle.std.specs.Prelude.{◌≡◌, ℕ, ◌<◌, ◌≤◌, ◌^◌, bit_and, Bool, List, filter, ◌==◌, ◌&&◌, ◌||◌, not, IsTrue}
use Rattle.std.specs.Int.{bit_at}
use Rattle.std.specs.List.{range_with_len}

-- the set has bit k
abbrev pub has_bit : ℕ → ℕ → Bool
has_bit set k = bit_at set k == 1

-- the set has the bits of either of two sets
abbrev pub IsUnion : ℕ → ℕ → ℕ → Type 0
IsUnion m n set = (k : ℕ) → has_bit set k ≡ (has_bit m k || has_bit n k)

-- the set has the bits of both of two sets
abbrev pub IsIntersection : ℕ → ℕ → ℕ → Type 0
IsIntersection m n set = (k : ℕ) → has_bit set k ≡ (has_bit m k && has_bit n k)

-- the set has the bits of one set that the other does not have
abbrev pub IsDifference : ℕ → ℕ → ℕ → Type 0
IsDifference m n set = (k : ℕ) → has_bit set k ≡ (has_bit m k && not (has_bit n k))

-- all bits of the part are bits of the whole
abbrev pub IsSubset : ℕ → ℕ → Type 0
IsSubset part whole = (k : ℕ) → IsTrue (has_bit part k) → IsTrue (has_bit whole k)

-- the permissions read, write and execute together (POSIX.1e draft 17, section 23.1.2)
abbrev pub all_permissions : ℕ
all_permissions = 7

-- a set of permissions: a number of three bits
abbrev pub IsPerm : ℕ → Type 0
IsPerm n = n < 2 ^ 3

-- the nine file mode bits together (POSIX.1e draft 17, section 23.1.3)
abbrev pub all_mode_bits : ℕ
all_mode_bits = 511

-- the sixteen access rights of an NFSv4 ACE together (RFC 8881, section 6.2.1.3.1)
abbrev pub all_rights : ℕ
all_rights = 0x001f07ff

-- a set of access rights
abbrev pub IsMask : ℕ → Type 0
IsMask n = bit_and n all_rights ≡ n

-- the bits of a set of access rights, in ascending order
abbrev pub rights_of : ℕ → List ℕ
rights_of mask = filter (has_bit mask) (range_with_len 0 21)

-- the eight flags of an NFSv4 ACE together (RFC 8881, section 6.2.1.4)
abbrev pub all_flags : ℕ
all_flags = 0xff

-- a set of flags
abbrev pub IsFlags : ℕ → Type 0
IsFlags n = n ≤ all_flags

-- the bit of the flag INHERIT_ONLY (RFC 8881, section 6.2.1.4.1)
abbrev pub inherit_only : ℕ
inherit_only = 3

-- the bit of the flag IDENTIFIER_GROUP (RFC 8881, section 6.2.1.4.1)
abbrev pub identifier_group : ℕ
identifier_group = 6

-- the flag IDENTIFIER_GROUP alone
abbrev pub identifier_group_alone : ℕ
identifier_group_alone = 0x40
