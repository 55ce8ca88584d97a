-- A SID at a place of a value (MS-DTYP, section 2.4.2.2): the revision 1, the number of
-- sub-authorities, the authority in six bytes with the highest first, and the sub-authorities in
-- four bytes each with the lowest first.
use Rattle.std.specs.Prelude.{ℕ, ◌+◌, ◌*◌, ◌/◌, ◌==◌, ◌&&◌, Bool, List, [], ◌∷◌, length, drop, take, map, nat_le, Option, Some, None, if◌then◌else◌}
use Rattle.std.specs.Simd.{first_chunks}
use Rattle.byteorder.specs.Endian.{big_number, little_number}
use Rattle.acl_nt.specs.Conditions.{Condition, check}
use Rattle.acl_nt.specs.Numbers.{byte_at}
use Rattle.acl_nt.specs.Sid.{Sid, most_words}
use Rattle.acl_nt.specs.declared.fault.NtReason.TheVariants.{SidCount, SidRevision, Truncated}

-- the number of sub-authorities of the SID at a place
abbrev pub word_count : List ℕ → ℕ → ℕ
word_count bytes at = byte_at bytes (at + 1)

-- the conditions on the SID at a place, which ends at another place or before it
unfoldable pub sid_conditions : List ℕ → ℕ → ℕ → List Condition
sid_conditions bytes at end =
    check (nat_le (at + 8) end) at Truncated
    ∷ check (byte_at bytes at == 1) at SidRevision
    ∷ check (nat_le (word_count bytes at) most_words) (at + 1) SidCount
    ∷ check (nat_le (at + 8 + 4 * word_count bytes at) end) (at + 8) Truncated ∷ []

-- the numbers of four bytes each that lie one after the other
abbrev pub sid_words : List ℕ → List ℕ
sid_words bytes = map (little_number 4) (first_chunks 4 (length bytes / 4) bytes)

-- the SID at a place
unfoldable pub sid_at : List ℕ → ℕ → Sid
sid_at bytes at = record {
  authority = big_number 6 (drop (at + 2) bytes);
  words = sid_words (take (4 * word_count bytes at) (drop (at + 8) bytes));
}

-- ---- a SID alone

-- the bytes have the header of a SID, and then as many sub-authorities as it says, and nothing more
abbrev pub are_sid : List ℕ → Bool
are_sid bytes = nat_le 8 (length bytes) && ((byte_at bytes 0 == 1)
    && (nat_le (word_count bytes 0) most_words && (length bytes == 8 + 4 * word_count bytes 0)))

-- the SID that the bytes are
abbrev pub sid_of_bytes : List ℕ → Option Sid
sid_of_bytes bytes = if are_sid bytes then Some (sid_at bytes 0) else None
