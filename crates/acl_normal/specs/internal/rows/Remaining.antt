-- What is left of a list while it is emitted (this library's own): a mask for each row, and the queues of places that
-- follow from the masks.
use Rattle.std.specs.Prelude.{◌≡◌, ℕ, ◌<◌, Bool, true, false, List, [], ◌∷◌, bit_and, vec_len, length, slice_index_or}
use Rattle.std.specs.Ordering.{nat_cmp}
use Rattle.std.specs.List.{list_any}
use Rattle.std.specs.List.Sorted.{IsStrictlySortedBy}
use Rattle.std.specs.BTreeMap.{is_at}
use Rattle.acl_perm.specs.Bits.{all_rights, has_bit}
use Rattle.acl_perm.specs.declared.kind.Kind.{Kind}
use Rattle.acl_nfs4.specs.Ace.{Ace}
use Rattle.acl_eval.specs.Column.{column}
use Rattle.acl_normal.specs.internal.Limits.{list_limit}
use Rattle.acl_normal.specs.internal.Tidy.{IsTidy}
use Rattle.acl_normal.specs.internal.Shown.{aces_with, mask_numbers, with_masks}
use Rattle.acl_normal.specs.Places.{waits}
use Rattle.acl_normal.specs.internal.Places.{mask_here}
use Rattle.acl_normal.specs.internal.rows.Rows.{AreRowNumbers, IsByPrincipal}
use Rattle.acl_normal.specs.declared.rows.remaining.Reduced.{Reduced}
use Rattle.acl_normal.specs.declared.rows.remaining.Remaining.TheInside.{Inside}

-- the masks by place, each without what has left its row
abbrev pub masks_left : List ℕ → List ℕ → List ℕ → List ℕ
masks_left [] rows left = []
masks_left (m ∷ masks) [] left = m ∷ masks
masks_left (m ∷ masks) (r ∷ rows) left = bit_and m (slice_index_or left r 0) ∷ masks_left masks rows left

-- the keys with the masks that are left of them
abbrev pub remaining_of : Inside → List Ace
remaining_of a =
    with_masks a.aces.items (masks_left (mask_numbers a.masks.items) a.rows.items (mask_numbers a.left.items))

-- the places, in order, are those of ACEs of the kind and the class; all that wait with the right are among them, and
-- of these each waits whose mask still has the right
pub record IsQueue (k : Kind) (users : Bool) (b : ℕ) (xs : List Ace) (places : List ℕ) : Type 0 where
  pub sorted : IsStrictlySortedBy nat_cmp places
  pub within : (i : ℕ) → list_any (is_at (nat_cmp i)) places ≡ true → i < length xs
  pub listed : (i : ℕ) → list_any (is_at (nat_cmp i)) places ≡ true → waits k users b xs i ≡ has_bit (mask_here xs i) b
  pub all : (i : ℕ) → waits k users b xs i ≡ true → list_any (is_at (nat_cmp i)) places ≡ true

-- a list without rights that play no part, the rows of its principals by place, and its places in their order
pub record IsNumbered (xs : List Ace) (numbers places : List ℕ) : Type 0 where
  pub tidy : IsTidy xs
  pub rights : (b : ℕ) → has_bit all_rights b ≡ false → column xs b ≡ []
  pub rows : AreRowNumbers xs numbers
  pub order : IsByPrincipal xs places

-- the reduced list
abbrev pub reduced_aces : Reduced → List Ace
reduced_aces r = aces_with r.aces.items r.masks.items

-- the numbers of a reduced list are those of its principals
abbrev pub HasNumbers : Reduced → Type 0
HasNumbers r = IsNumbered (reduced_aces r) r.numbers.rows.items r.numbers.order.items

-- a list that may remain: it is short and tidy, and has no mask with a bit that is not a right
pub record IsRemainder (xs : List Ace) : Type 0 where
  pub few : length xs < list_limit
  pub tidy : IsTidy xs
  pub rights : (b : ℕ) → has_bit all_rights b ≡ false → column xs b ≡ []

-- the masks by row say what is left
pub record IsRemaining (a : Inside) : Type 0 where
  pub few : length a.aces.items < list_limit
  pub masks : vec_len a.masks ≡ length a.aces.items
  pub left : vec_len a.left ≡ length a.aces.items
  pub list : IsNumbered (remaining_of a) a.rows.items a.order.items
