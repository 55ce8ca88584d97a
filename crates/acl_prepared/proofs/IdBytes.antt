-- The bytes of an ACE in a prepared list of ids, and what is read from them.
use Rattle.std.proofs.Common.{◌≡◌, ℕ, ◌+◌, ◌*◌, ◌/◌, ◌%◌, ◌^◌, ◌<◌, ◌≤◌, List, ◌++◌, ap, ◌∙◌, arith, take, drop}
use Rattle.std.proofs.lemmas.Nat.{and_le_r, from_le_bytes-to_le_bytes_8}
use Rattle.std.specs.Int.{from_le_bytes, to_le_bytes, w64}
use Rattle.std.specs.Str.Parse.{digits_value}
use Rattle.acl_perm.specs.Bits.{IsMask}
use Rattle.acl_perm.specs.Kind.{kind_number}
use Rattle.acl_perm.specs.Order.{principal_name, principal_rank}
use Rattle.acl_nfs4.specs.Ace.{Ace}
use Rattle.acl_nfs4.specs.Who.{principal_of}
use Rattle.acl_prepared.specs.Prepared.{sort_number}
use Rattle.acl_prepared.specs.PreparedIds.{id_ace, id_ace_number}
use Rattle.acl_prepared.specs.internal.IdsBody.{IsIdPart}
use Rattle.acl_prepared.proofs.PreparedBytes.{kind_below, rank_below}

-- the three numbers in the number of an ACE
pub record AreIdIn (n m c i : ℕ) : Type 0 where
  pub mask : n % 2 ^ 28 ≡ m
  pub sort : n / 2 ^ 28 % 16 ≡ c
  pub id : n / 2 ^ 32 ≡ i

-- three numbers that fit are read as they were written
unpack : (n m c i : ℕ) → m < 2 ^ 28 → c < 16 → i < 2 ^ 32 → n ≡ m + 2 ^ 28 * c + 2 ^ 32 * i → AreIdIn n m c i
unpack n m c i p q r e = record { mask = omega arith; sort = omega arith; id = omega arith }

-- a set of rights is a number of 28 bits
small_mask : (n : ℕ) → IsMask n → n < 2 ^ 28
small_mask n is = let le : n ≤ 0x001f07ff = rw (← is) (and_le_r n 0x001f07ff) in omega arith

-- the number of an ACE has the numbers of which it is made
read_number : (a : Ace) → IsIdPart a
    → AreIdIn (from_le_bytes w64 (to_le_bytes w64 (id_ace_number (principal_of a) a.kind a.mask)))
    a.mask (sort_number (principal_of a) a.kind) (digits_value 10 (principal_name (principal_of a)))
read_number a is =
    let p = principal_of a in
    let mask : a.mask < 2 ^ 28 = small_mask a.mask is.mask in
    let rank : principal_rank p < 5 = rank_below p in
    let kind : kind_number a.kind < 2 = kind_below a.kind in
    let id : digits_value 10 (principal_name p) < 2 ^ 32 = is.id in
    unpack _ a.mask (sort_number p a.kind) (digits_value 10 (principal_name p)) mask (omega arith) id
    (from_le_bytes-to_le_bytes_8 (id_ace_number p a.kind a.mask) (omega arith))

-- what is read from bytes that begin with those of an ACE: the number, and the rest behind it
pub record IsIdLaidOut (a : Ace) (more : List ℕ) (n : ℕ) (rest : List ℕ) : Type 0 where
  pub numbers : AreIdIn n a.mask (sort_number (principal_of a) a.kind)
      (digits_value 10 (principal_name (principal_of a)))
  pub behind : rest ≡ more

-- the bytes of an ACE are laid out so
pub id_layout : (a : Ace) (bytes more number rest : List ℕ) (n : ℕ) → IsIdPart a → bytes ≡ id_ace a ++ more
    → number ≡ take 8 bytes → rest ≡ drop 8 bytes → n ≡ from_le_bytes w64 number → IsIdLaidOut a more n rest
id_layout a bytes more number rest n is e front back value = record {
  numbers = rw (value, front, e) (read_number a is);
  behind = back ∙ ap (drop 8) e;
}
