-- The normal form of a list of ACEs (this library's own, over what lists grant by RFC 8881, section 6.2.1): no right
-- that plays no part, one order, and no flag that plays no part.
use Rattle.std.specs.Prelude.{⊤, ◌≡◌, ◌≢◌, ℕ, ◌^◌, Bool, false, not, ◌||◌, ◌&&◌, IsTrue, List, [], ◌∷◌, ◌++◌}
use Rattle.std.specs.List.{AllByRecursion}
use Rattle.std.specs.Ordering.{is_le}
use Rattle.acl_perm.specs.Bits.{has_bit, all_rights, identifier_group_alone, inherit_only}
use Rattle.acl_perm.specs.Principal.{Principal, owner, user, group, group_named, everyone}
use Rattle.acl_nfs4.specs.Ace.{Ace}
use Rattle.acl_nfs4.specs.Who.{principal_of}
use Rattle.acl_eval.specs.Column.{Column, column}
use Rattle.acl_eval.specs.Grant.{SameGrants}
use Rattle.acl_eval.specs.Scan.{without}
use Rattle.acl_normal.specs.Keys.{ColumnKey, ace_key, principal_eq, kind_eq, conflicts, compare_keys}

-- the ACE without one right of its mask
abbrev pub without_bit : Ace → ℕ → Ace
without_bit a bit = record a { mask = without a.mask (2 ^ bit) }

-- the right of that ACE is needed: without it the list would not grant the same
abbrev pub IsNeeded : List Ace → Ace → List Ace → ℕ → Type 0
IsNeeded before a after bit =
    SameGrants all_rights (before ++ a ∷ after) (before ++ without_bit a bit ∷ after) → ⊥

-- no mask is empty
abbrev pub HasNoEmptyMask : List Ace → Type 0
HasNoEmptyMask list = AllByRecursion (λ a. a.mask ≢ 0) list

-- each right of each mask is needed
abbrev pub HasOnlyNeeded : List Ace → Type 0
HasOnlyNeeded list = (before : List Ace) (a : Ace) (after : List Ace) (bit : ℕ) → list ≡ before ++ a ∷ after
    → IsTrue (has_bit a.mask bit) → IsNeeded before a after bit

-- no mask is empty, and each right of each mask is needed
pub record IsIrreducibleList (list : List Ace) : Type 0 where
  pub no_empty_mask : HasNoEmptyMask list
  pub needed : HasOnlyNeeded list

-- the key is free in a column: the column has it, and no key before it conflicts with it
abbrev pub is_free : Column → ColumnKey → Bool
is_free [] e = false
is_free (first ∷ c) e = (principal_eq first.0 e.0 && kind_eq first.1 e.1) || (not (conflicts first e) && is_free c e)

-- each ACE has the least key that is free on some right in the rest of the list, with all rights on which it is free
abbrev pub IsOrdered : List Ace → Type 0
IsOrdered [] = ⊤
IsOrdered (a ∷ list) =
    ((e : ColumnKey) (bit : ℕ) → IsTrue (is_free (column (a ∷ list) bit) e)
    → IsTrue (is_le (compare_keys (ace_key a) e)))
    × ((bit : ℕ) → has_bit a.mask bit ≡ is_free (column (a ∷ list) bit) (ace_key a))
    × IsOrdered list

-- IDENTIFIER_GROUP on a group name, and no other flag (RFC 8881, section 6.2.1.4)
abbrev pub flags_for : Principal → ℕ
flags_for owner = 0
flags_for (user name) = 0
flags_for group = 0
flags_for (group_named name) = identifier_group_alone
flags_for everyone = 0

-- each ACE has the flags that its principal needs
abbrev pub HasNormalFlags : List Ace → Type 0
HasNormalFlags list = AllByRecursion (λ a. a.flags ≡ flags_for (principal_of a)) list

-- a list in normal form
pub record IsNormal (list : List Ace) : Type 0 where
  pub irreducible : IsIrreducibleList list
  pub ordered : IsOrdered list
  pub flags : HasNormalFlags list

-- ---- lists on the way to a normal form

-- the ACE takes no part
abbrev pub is_inherit_only : Ace → Bool
is_inherit_only a = has_bit a.flags inherit_only

-- the ACE has the right and takes part, so that it is a key of the right's column
abbrev pub counts : ℕ → Ace → Bool
counts bit a = has_bit a.mask bit && not (is_inherit_only a)
