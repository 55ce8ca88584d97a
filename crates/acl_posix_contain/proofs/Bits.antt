-- The permissions of entries, bit by bit.
use Rattle.std.proofs.Common.{◌≡◌, ℕ, ◌<◌, ◌^◌, Bool, true, false, List, Option, None, Some, refl, sym, ap, ◌∙◌}
use Rattle.std.specs.Prelude.{◌&&◌, ◌==◌, bit_and, if◌then◌else◌, is_some, unwrap_or}
use Rattle.std.proofs.lemmas.Nat.Bits.{bit_at_ones}
use Rattle.std.specs.List.{list_all}
use Rattle.std.specs.FinMap as fin
use Rattle.acl_perm.proofs.Sets.{has_bit-and, no_bit}
use Rattle.acl_perm.specs.Bits.{has_bit}
use Rattle.acl_posix.specs.Check.{contains, is_contained}
use Rattle.acl_posix.specs.Entries.{Entries}
use Rattle.acl_posix.specs.Mask.{effective_of}
use Rattle.acl_posix.specs.Tag.{Tag, is_masked, mask}
use Rattle.acl_posix_contain.specs.internal.Limits.{entry_gets, holds, passes}
use Rattle.acl_posix_contain.proofs.Removals.{contains_bit}

-- a test repeated, and a test with one that holds
twice : (b : Bool) → (b && b) ≡ (b && true)
twice true = refl
twice false = refl

once : (b : Bool) → b ≡ (b && true)
once true = refl
once false = refl

-- what a mask leaves, bit by bit
masked_bit : (b : Bool) (o : Option ℕ) (n k : ℕ) → has_bit (if b then bit_and n (unwrap_or o n) else n) k
    ≡ (contains n (2 ^ k) && (if b then (if is_some o then is_contained o (2 ^ k) else true) else true))
masked_bit true (Some m) n k = has_bit-and n m k ∙ rw (contains_bit n k, contains_bit m k) refl
masked_bit true None n k = has_bit-and n n k ∙ rw (contains_bit n k) (twice (has_bit n k))
masked_bit false o n k = rw (contains_bit n k) (once (has_bit n k))

-- what an entry grants has the permissions that the entry contains and MASK lets through
pub effective_bit : (E : Entries) (t : Tag) (n k : ℕ)
    → has_bit (effective_of E (t, n)) k ≡ (contains n (2 ^ k) && passes E t (2 ^ k))
effective_bit E t n k = masked_bit (is_masked t) (fin.get E mask) n k

-- so has what the entry of a tag grants
pub held_bit : (E : Entries) (t : Tag) (n k : ℕ) → fin.get E t ≡ Some n
    → has_bit (effective_of E (t, n)) k ≡ holds E t (2 ^ k)
held_bit E t n k is =
    effective_bit E t n k ∙ ap (λ (o : Option ℕ). is_contained o (2 ^ k) && passes E t (2 ^ k)) (sym is)

-- an entry that is absent grants nothing
pub none_held : (E : Entries) (t : Tag) (k : ℕ) → entry_gets E t (2 ^ k) (has_bit 0 k) ≡ holds E t (2 ^ k)
none_held E t k = by (fin.get E t)
  where
    by : (o : Option ℕ) → (if is_some o then is_contained o (2 ^ k) && passes E t (2 ^ k) else has_bit 0 k)
        ≡ (is_contained o (2 ^ k) && passes E t (2 ^ k))
    by None = no_bit k
    by (Some n) = refl

-- if the entry of a tag is there, it decides
pub held_first : (E : Entries) (t : Tag) (n k : ℕ) (rest : Bool) → fin.get E t ≡ Some n
    → has_bit (effective_of E (t, n)) k ≡ entry_gets E t (2 ^ k) rest
held_first E t n k rest is =
    held_bit E t n k is ∙ ap (λ (o : Option ℕ). if is_some o then holds E t (2 ^ k) else rest) (sym is)

-- each permission is one of all
pub all_bits : (k : ℕ) → k < 3 → has_bit 7 k ≡ true
all_bits k lt = ap (λ (d : ℕ). d == 1) (bit_at_ones 3 k lt)

-- all permissions, and those that all tags have in common
pub first_common : (test : Tag → Bool) (ts us : List Tag) (k : ℕ) → k < 3 → ts ≡ us
    → (has_bit 7 k && list_all test ts) ≡ list_all test us
first_common test ts us k lt same = rw (all_bits k lt) (ap (list_all test) same)
