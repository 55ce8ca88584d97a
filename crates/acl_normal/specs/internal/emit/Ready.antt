-- The keys that have a free right (this library's own).
use Rattle.std.specs.Prelude.{◌≡◌, ◌≢◌, ℕ, ◌*◌, ◌<◌, ◌≤◌, zero, suc, Bool, true, false, cond, ◌||◌, ◌&&◌, ◌==◌, ◌⊎◌, ◌^◌, List, length, slice_index_or, bit_or}
use Rattle.std.specs.Ordering.{is_le}
use Rattle.acl_perm.specs.Principal.{Principal, owner, user, group, group_named, everyone, is_user}
use Rattle.acl_perm.specs.declared.kind.Kind.{Kind}
use Rattle.acl_perm.specs.Bits.{has_bit}
use Rattle.acl_nfs4.specs.Ace.{Ace}
use Rattle.acl_nfs4.specs.Who.{owner_name, group_name, everyone_name}
use Rattle.acl_eval.specs.Column.{column}
use Rattle.acl_normal.specs.internal.Places.{bit_count}
use Rattle.acl_normal.specs.Keys.{principal_eq, ColumnKey, compare_keys, kind_eq}
use Rattle.acl_perm.specs.Kind.{other_kind}
use Rattle.acl_normal.specs.Normal.{is_free, flags_for}
use Rattle.acl_normal.specs.Places.{nothing_left}
use Rattle.acl_normal.specs.internal.rows.Rows.{IsRowOf, is_principal_of, key_number}

-- the marked rights of each key of a column
abbrev pub Marked : Type 0
Marked = ColumnKey → ℕ

-- the same key
abbrev pub key_eq : ColumnKey → ColumnKey → Bool
key_eq k l = principal_eq k.0 l.0 && kind_eq k.1 l.1

-- the rights that a list of masks marks, by the numbers that the keys have in an outline
abbrev pub marks : List Ace → List ℕ → Marked
marks outline bits k = cond (is_principal_of k.0 outline) (slice_index_or bits (key_number k outline) 0) 0

-- the number of a key whose principal the list names
pub record IsKeyNumber (outline : List Ace) (number : ℕ) : Type 0 where
  pub key : ColumnKey
  pub named : is_principal_of key.0 outline ≡ true
  pub is : number ≡ key_number key outline

-- a list of masks has room for the keys of an outline, and only these have a mask that is not empty
pub record FitsKeys (outline : List Ace) (bits : List ℕ) : Type 0 where
  pub count : length bits ≡ 2 * length outline
  pub sound : (number : ℕ) → slice_index_or bits number 0 ≢ 0 → IsKeyNumber outline number

-- the least number with a mask that is not empty, and this mask
pub record IsLeastReady (bits : List ℕ) (number found : ℕ) : Type 0 where
  pub is : found ≡ slice_index_or bits number 0
  pub some : found ≢ 0
  pub least : (n : ℕ) → slice_index_or bits n 0 ≢ 0 → number ≤ n

-- a right of a key was marked
pub record AddsMark (k : ColumnKey) (bit : ℕ) (old new : Marked) : Type 0 where
  pub bits : (l : ColumnKey) (b : ℕ) → has_bit (new l) b ≡ (has_bit (old l) b || (key_eq l k && (b == bit)))

-- only free rights were added
pub record Grows (xs : List Ace) (old new : Marked) : Type 0 where
  pub kept : (k : ColumnKey) (b : ℕ) → has_bit (old k) b ≡ true → has_bit (new k) b ≡ true
  pub sound : (k : ColumnKey) (b : ℕ) → has_bit (new k) b ≡ true
      → (has_bit (old k) b ≡ true) ⊎ (is_free (column xs b) k ≡ true)

-- only free rights were added, and each free key of a kind and a class is marked at the right
pub record Enters (kind : Kind) (users : Bool) (bit : ℕ) (xs : List Ace) (old new : Marked) : Type 0 where
  pub grows : Grows xs old new
  pub all : (q : Principal) → is_user q ≡ users → is_free (column xs bit) (q, kind) ≡ true
      → has_bit (new (q, kind)) bit ≡ true

-- only free rights were added, and each free key of the other kind that may overlap the key is marked on these rights
pub record Frees (k : ColumnKey) (bits : ℕ) (xs : List Ace) (old new : Marked) : Type 0 where
  pub grows : Grows xs old new
  pub all : (q : Principal) (b : ℕ) → b < bit_count → has_bit bits b ≡ true → (is_user k.0 && is_user q) ≡ false
      → is_free (column xs b) (q, other_kind k.1) ≡ true → has_bit (new (q, other_kind k.1)) b ≡ true

-- the marks of the keys of a list changed in some way
pub record ChangesMarks (xs : List Ace) (Changes : Marked → Marked → Type 0) (old new : List ℕ) : Type 0 where
  pub keys : FitsKeys (nothing_left xs) new
  pub marks : Changes (marks (nothing_left xs) old) (marks (nothing_left xs) new)

-- each key is marked on exactly the rights on which it is free
abbrev pub HoldsFree : Marked → List Ace → Type 0
HoldsFree es xs = (k : ColumnKey) (b : ℕ) → has_bit (es k) b ≡ is_free (column xs b) k

-- the least of the marked keys was taken, with its rights
pub record Popped (old : Marked) (k : ColumnKey) (bits : ℕ) (new : Marked) : Type 0 where
  pub is : old k ≡ bits
  pub some : bits ≢ 0
  pub after : (l : ColumnKey) → new l ≡ cond (key_eq l k) 0 (old l)
  pub least : (l : ColumnKey) → old l ≢ 0 → is_le (compare_keys k l) ≡ true

-- the least of the marked keys was taken, with its rights, and it is a key of that row
pub record TakesBits (xs : List Ace) (old new : List ℕ) (row : ℕ) (k : ColumnKey) (bits : ℕ) : Type 0 where
  pub at_row : IsRowOf row k.0 xs
  pub popped : Popped (marks (nothing_left xs) old) k bits (marks (nothing_left xs) new)
  pub fits : FitsKeys (nothing_left xs) new

-- the who of a principal
abbrev pub who_for : Principal → List ℕ
who_for owner = owner_name
who_for (user a) = a
who_for group = group_name
who_for (group_named a) = a
who_for everyone = everyone_name

-- the ACE of a key and a mask
abbrev pub emitted : ColumnKey → ℕ → Ace
emitted k m = record { kind = k.1; flags = flags_for k.0; mask = m; who = who_for k.0 }

-- the rights of a mask whose bit is below a number
abbrev pub low_bits : ℕ → ℕ → ℕ
low_bits m zero = 0
low_bits m (suc b) = cond (has_bit m b) (bit_or (low_bits m b) (2 ^ b)) (low_bits m b)
