-- The bytes of an ACE in a prepared list, and what is read from them.
use Rattle.std.proofs.Common.{◌≡◌, ℕ, ◌+◌, ◌*◌, ◌/◌, ◌%◌, ◌^◌, ◌<◌, List, ◌++◌, refl, ap, ◌∙◌, arith, length, take, drop}
use Rattle.std.proofs.lemmas.Nat.{from_le_bytes-to_le_bytes_8}
use Rattle.std.specs.Prelude.{Bool, true, false, ◌==◌, if◌then◌else◌}
use Rattle.std.specs.Str.{bytes_eq}
use Rattle.std.specs.Int.{from_le_bytes, to_le_bytes, w64}
use Rattle.acl_perm.specs.Bits.{has_bit, identifier_group}
use Rattle.acl_perm.specs.Kind.{kind_number}
use Rattle.acl_perm.specs.Order.{principal_name, principal_rank}
use Rattle.acl_perm.specs.Principal.{Principal, owner, user, group, group_named, everyone}
use Rattle.acl_perm.specs.Profile.{full}
use Rattle.acl_perm.specs.declared.kind.Kind.{Kind}
use Rattle.acl_perm.specs.declared.kind.Kind.TheVariants.{Deny, Allow}
use Rattle.acl_perm.proofs.Sets.{IsMask-lt}
use Rattle.acl_nfs4.specs.Ace.{Ace}
use Rattle.acl_nfs4.specs.Spelling.{IsAce}
use Rattle.acl_nfs4.specs.Who.{everyone_name, group_name, owner_name, principal_of}
use Rattle.acl_nfs4.proofs.Exports.{who_bounds}
use Rattle.acl_prepared.specs.Prepared.{ace_number, name_hash, prepared_ace, sort_number}
use Rattle.acl_prepared.proofs.NameHashes.{hash_below}

-- the four numbers in the number of an ACE
pub record AreIn (n m c k l : ℕ) : Type 0 where
  pub mask : n % 2 ^ 32 ≡ m
  pub sort : n / 2 ^ 32 % 256 ≡ c
  pub hash : n / 2 ^ 40 % 256 ≡ k
  pub size : n / 2 ^ 48 ≡ l

-- four numbers that fit are read as they were written
unpack : (n m c k l : ℕ) → m < 2 ^ 32 → c < 256 → k < 256 → l < 65536
    → n ≡ m + 2 ^ 32 * c + 2 ^ 40 * k + 2 ^ 48 * l → AreIn n m c k l
unpack n m c k l p q r s e = record {
  mask = omega arith;
  sort = omega arith;
  hash = omega arith;
  size = omega arith;
}

-- a rank is below 5
pub rank_below : (p : Principal) → principal_rank p < 5
rank_below owner = omega arith
rank_below (user name) = omega arith
rank_below group = omega arith
rank_below (group_named name) = omega arith
rank_below everyone = omega arith

-- the name of a principal is as short as a who
pub name_short : (a : Ace) → IsAce full a → length (principal_name (principal_of a)) < 65536
name_short a is = by (bytes_eq a.who owner_name) (bytes_eq a.who group_name) (bytes_eq a.who everyone_name)
    (has_bit a.flags identifier_group) refl refl refl refl
  where
    short : length a.who < 65536
    short = let h = (who_bounds a.who is.who).1 in omega (arith, h)

    by : (o g e i : Bool) → bytes_eq a.who owner_name ≡ o → bytes_eq a.who group_name ≡ g
        → bytes_eq a.who everyone_name ≡ e → has_bit a.flags identifier_group ≡ i
        → length (principal_name (principal_of a)) < 65536
    by true g e i p q r t = rw p (omega arith)
    by false true e i p q r t = rw (p, q) (omega arith)
    by false false true i p q r t = rw (p, q, r) (omega arith)
    by false false false true p q r t = rw (p, q, r, t) short
    by false false false false p q r t = rw (p, q, r, t) short

-- the number of a kind is below 2
pub kind_below : (k : Kind) → kind_number k < 2
kind_below Deny = omega arith
kind_below Allow = omega arith

-- the number of an ACE has the numbers of which it is made
read_number : (a : Ace) → IsAce full a
    → AreIn (from_le_bytes w64 (to_le_bytes w64 (ace_number (principal_of a) a.kind a.mask)))
    a.mask (sort_number (principal_of a) a.kind) (name_hash (principal_name (principal_of a)))
    (length (principal_name (principal_of a)))
read_number a is =
    let p = principal_of a in
    let mask : a.mask < 2 ^ 32 = IsMask-lt a.mask is.mask in
    let rank : principal_rank p < 5 = rank_below p in
    let kind : kind_number a.kind < 2 = kind_below a.kind in
    let hash : name_hash (principal_name p) < 256 = hash_below (principal_name p) in
    let size : length (principal_name p) < 65536 = name_short a is in
    unpack _ a.mask (sort_number p a.kind) (name_hash (principal_name p)) (length (principal_name p)) mask (omega arith)
    hash size (from_le_bytes-to_le_bytes_8 (ace_number p a.kind a.mask) (omega arith))

-- what is read from bytes that begin with those of an ACE: the number, and the name and the rest behind it
pub record IsLaidOut (a : Ace) (more : List ℕ) (n : ℕ) (after : List ℕ) : Type 0 where
  pub numbers : AreIn n a.mask (sort_number (principal_of a) a.kind) (name_hash (principal_name (principal_of a)))
      (length (principal_name (principal_of a)))
  pub behind : after ≡ principal_name (principal_of a) ++ more

-- the bytes of an ACE are laid out so
pub layout : (a : Ace) (bytes more number after : List ℕ) (n : ℕ) → IsAce full a → bytes ≡ prepared_ace a ++ more
    → number ≡ take 8 bytes → after ≡ drop 8 bytes → n ≡ from_le_bytes w64 number → IsLaidOut a more n after
layout a bytes more number after n is e front back value = record {
  numbers = rw (value, front, e) (read_number a is);
  behind = back ∙ ap (drop 8) e;
}

-- the sort says the kind
pub kind_read : (p : Principal) (k : Kind) (sort : ℕ) → sort ≡ sort_number p k
    → (if sort % 2 == 0 then Allow else Deny) ≡ k
kind_read p Allow sort e = let even : sort % 2 ≡ 0 = omega arith in rw even refl
kind_read p Deny sort e = let odd : sort % 2 ≡ 1 = omega arith in rw odd refl

-- the sort says the rank
pub rank_read : (p : Principal) (k : Kind) (sort : ℕ) → sort ≡ sort_number p k → sort / 2 ≡ principal_rank p
rank_read p Allow sort e = omega arith
rank_read p Deny sort e = omega arith
