-- The bytes of a prepared list (this library's own): a start, and then the bytes of each ACE that takes part in what
-- the list grants, in order. Those of an ACE are a number of eight bytes, the least byte first, and the name, if it
-- names a user or a group.
use Rattle.std.specs.Prelude.{◌≡◌, ℕ, ◌+◌, ◌-◌, ◌*◌, ◌/◌, ◌%◌, ◌^◌, if◌then◌else◌, List, ◌++◌, codes, drop, filter, fold, length, nat_lt, take}
use Rattle.std.specs.Int.{from_le_bytes, to_le_bytes, w64}
use Rattle.std.specs.List.{flat_map}
use Rattle.acl_perm.specs.Kind.{kind_number}
use Rattle.acl_perm.specs.Order.{principal_name, principal_rank}
use Rattle.acl_perm.specs.Principal.{Principal}
use Rattle.acl_perm.specs.Profile.{full}
use Rattle.acl_perm.specs.declared.kind.Kind.{Kind}
use Rattle.acl_nfs4.specs.Ace.{Ace}
use Rattle.acl_nfs4.specs.Spelling.{IsAccepted}
use Rattle.acl_nfs4.specs.Who.{principal_of}
use Rattle.acl_eval.specs.Column.{takes_part}
use Rattle.acl_prepared.specs.declared.prepared_names.Prepared.{Prepared}

-- the bytes that each prepared list begins with; the last of them is the number of this form
abbrev pub prepared_start : List ℕ
prepared_start = codes "aclprep1"

-- the hash of a name of less than eight bytes
abbrev pub short_hash : List ℕ → ℕ
short_hash name = fold (λ hash byte. (31 * hash + byte) % 256) 0 name

-- the hash of a longer name, by its first and its last eight bytes: the highest byte of a sum of products
abbrev pub ends_hash : List ℕ → List ℕ → ℕ
ends_hash first last = (from_le_bytes w64 first * 0x9e3779b97f4a7c15 + from_le_bytes w64 last * 0xc2b2ae3d27d4eb4f)
    % 2 ^ 64 / 2 ^ 56

-- the hash of a name: a byte that two different names seldom share
unfoldable pub name_hash : List ℕ → ℕ
name_hash name = if nat_lt (length name) 8 then short_hash name
    else ends_hash (take 8 name) (drop (length name - 8) name)

-- the kind, and which of the five principals an ACE names, as one number
abbrev pub sort_number : Principal → Kind → ℕ
sort_number p kind = kind_number kind + 2 * principal_rank p

-- the number of an ACE: its mask in four bytes, its sort and the hash of its name in one byte each, and the length of
-- the name in two bytes
abbrev pub ace_number : Principal → Kind → ℕ → ℕ
ace_number p kind mask = mask + 2 ^ 32 * sort_number p kind + 2 ^ 40 * name_hash (principal_name p)
    + 2 ^ 48 * length (principal_name p)

-- the bytes of an ACE
abbrev pub prepared_ace : Ace → List ℕ
prepared_ace a =
    to_le_bytes w64 (ace_number (principal_of a) a.kind a.mask) ++ principal_name (principal_of a)

-- the bytes of those ACEs that take part
abbrev pub prepared_aces : List Ace → List ℕ
prepared_aces list = flat_map prepared_ace (filter takes_part list)

-- the list is accepted, and these are its bytes when it is prepared
pub record IsPrepared (list : List Ace) (bytes : List ℕ) : Type 0 where
  pub accepted : IsAccepted full list
  pub made : bytes ≡ prepared_start ++ prepared_aces list

-- the list is accepted, and the value was read from its bytes
pub record IsReadFrom (list : List Ace) (prepared : Prepared) : Type 0 where
  pub accepted : IsAccepted full list
  pub aces : prepared.aces.now ≡ prepared_aces list
