-- Lists that are put into order key by key (this library's own).
use Rattle.std.specs.Prelude.{⊤, ◌≡◌, ◌≢◌, ℕ, true, false, List, [], ◌∷◌, None}
use Rattle.std.specs.Ordering.{is_le}
use Rattle.acl_perm.specs.Bits.{has_bit}
use Rattle.acl_nfs4.specs.Ace.{Ace}
use Rattle.acl_nfs4.specs.Who.{principal_of}
use Rattle.acl_eval.specs.Column.{Column, column, first_kind}
use Rattle.acl_normal.specs.Keys.{ColumnKey, ace_key, compare_keys}
use Rattle.acl_normal.specs.internal.Alike.{is_either, IsAlike}
use Rattle.acl_normal.specs.Normal.{is_free, IsOrdered, HasNormalFlags, HasNoEmptyMask, flags_for}
use Rattle.acl_normal.specs.internal.Plain.{without_principal}

-- no principal twice
abbrev pub IsOnce : Column → Type 0
IsOnce [] = ⊤
IsOnce ((p, k) ∷ r) = (first_kind (is_either p p) r ≡ None) × IsOnce r

-- no column of the list has a principal twice
abbrev pub HasOnceColumns : List Ace → Type 0
HasOnceColumns list = (bit : ℕ) → IsOnce (column list bit)

-- all columns of the list are empty
abbrev pub HasEmptyColumns : List Ace → Type 0
HasEmptyColumns list = (bit : ℕ) → column list bit ≡ []

-- what is emitted from a list: columns that are alike, in order
pub record IsEmission (list emitted : List Ace) : Type 0 where
  pub alike : (bit : ℕ) → IsAlike (column list bit) (column emitted bit)
  pub once : (bit : ℕ) → IsOnce (column emitted bit)
  pub ordered : IsOrdered emitted
  pub flags : HasNormalFlags emitted
  pub masks : HasNoEmptyMask emitted

-- the ACE a is the first that is emitted from a list, and rest is what is left
pub record IsStep (list : List Ace) (a : Ace) (rest : List Ace) : Type 0 where
  pub flags : a.flags ≡ flags_for (principal_of a)
  pub mask : a.mask ≢ 0
  pub least : (e : ColumnKey) (bit : ℕ) → is_free (column list bit) e ≡ true → is_le (compare_keys (ace_key a) e) ≡ true
  pub all : (bit : ℕ) → has_bit a.mask bit ≡ is_free (column list bit) (ace_key a)
  pub taken : (bit : ℕ) → has_bit a.mask bit ≡ true
      → column rest bit ≡ without_principal (principal_of a) (column list bit)
  pub kept : (bit : ℕ) → has_bit a.mask bit ≡ false → column rest bit ≡ column list bit
