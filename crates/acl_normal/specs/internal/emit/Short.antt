-- The emission of a short list (this library's own): what is left of the list, and the ACE that comes first.
use Rattle.std.specs.Prelude.{◌≡◌, ◌≢◌, ℕ, All, not, ◌&&◌, true, bit_or, List, Option, None, Some}
use Rattle.std.specs.Ordering.{is_le}
use Rattle.std.specs.declared.cmp.Ordering.{Ordering}
use Rattle.std.specs.declared.cmp.Ordering.TheVariants.{Equal, Greater, Less}
use Rattle.acl_perm.specs.Bits.{has_bit}
use Rattle.acl_perm.specs.Principal.{principal}
use Rattle.acl_nfs4.specs.Ace.{Ace}
use Rattle.acl_nfs4.specs.Who.{principal_of}
use Rattle.acl_eval.specs.Column.{column}
use Rattle.acl_normal.specs.Keys.{ColumnKey, ace_key, compare_keys}
use Rattle.acl_normal.specs.Normal.{flags_for, is_free}
use Rattle.acl_normal.specs.internal.Passes.{conflicts_before}
use Rattle.acl_normal.specs.internal.emit.Emissions.{HasEmptyColumns}
use Rattle.acl_normal.specs.internal.emit.Emitted.{emitted_ace}
use Rattle.acl_normal.specs.internal.rows.Rows.{IsRowOf}
use Rattle.acl_normal.specs.declared.emit.emission.Emitted.{Emitted}

-- the ACE names the principal of its key, and has the row that this principal has in a list
pub record IsLeftOf (xs : List Ace) (e : Emitted) : Type 0 where
  pub named : principal_of (emitted_ace e) ≡ principal e.key.principal
  pub row : IsRowOf e.row (principal e.key.principal) xs

-- each of these does
abbrev pub AreLeftOf : List Ace → List Emitted → Type 0
AreLeftOf xs es = All (IsLeftOf xs) es

-- the ACE has the least key that is free on some right of the list, with all rights on which it is free
pub record ComesFirst (list : List Ace) (a : Ace) : Type 0 where
  pub flags : a.flags ≡ flags_for (principal_of a)
  pub mask : a.mask ≢ 0
  pub least : (e : ColumnKey) (bit : ℕ) → is_free (column list bit) e ≡ true → is_le (compare_keys (ace_key a) e) ≡ true
  pub all : (bit : ℕ) → has_bit a.mask bit ≡ is_free (column list bit) (ace_key a)

-- the ACE that comes first in a list, or none if no right is left
abbrev pub IsFirstLeft : List Ace → Option Ace → Type 0
IsFirstLeft list None = HasEmptyColumns list
IsFirstLeft list (Some a) = ComesFirst list a

-- the rights of an ACE on which no ACE of the list before it conflicts with it
abbrev pub AreFreeAfter : List Ace → Ace → ℕ → Type 0
AreFreeAfter list a m = (bit : ℕ)
    → has_bit m bit ≡ (has_bit a.mask bit && not (conflicts_before (column list bit) (ace_key a)))

-- of two ACEs whose keys are in this order, the one with the lesser key; if it is one key, with the rights of both
abbrev pub lesser_by : Ordering → Ace → Ace → Ace
lesser_by Less a b = a
lesser_by Equal a b = record a { mask = bit_or a.mask b.mask }
lesser_by Greater a b = b

-- the lesser of two ACEs, or the second if there is no first
abbrev pub lesser_of : Option Ace → Ace → Ace
lesser_of None b = b
lesser_of (Some a) b = lesser_by (compare_keys (ace_key a) (ace_key b)) a b
