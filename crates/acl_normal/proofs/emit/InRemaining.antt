-- What remains of a list, by its fields.
use Rattle.acl_normal.proofs.Common.{aces_with, Ace, AceRef, aces_in, all_rights, ap, AreRowNumbers, arith, bit_and, mask_numbers, column, Inside, IsRemaining, IsRowOf, IsTidy, key_here, length, List, Mask, mask_here, masks_left, nothing_left, Principal, remaining_of, row_of, slice_index_or, slice_set, subst, sym, take_out, vec_len, with_masks, without, ℕ, ◌<◌, ◌^◌, ◌∙◌, ◌≡◌, get_or_default}
use Rattle.std.specs.Vec.{with_item}
use Rattle.acl_normal.specs.internal.rows.Remaining.{IsNumbered}
use Rattle.acl_normal.proofs.emit.RemainingLemmas.{all_left, left_at, length_left, mask_shown, row_taken}
use Rattle.acl_normal.proofs.rows.Quiet.{tidy_taken}
use Rattle.acl_normal.proofs.rows.Rows.{named_here, row_below, row_same}
use Rattle.acl_normal.proofs.rows.TakeOut.{none_taken}
use Rattle.acl_normal.proofs.unique.Outline.{length_shown, outline_shown}
use Rattle.acl_normal.proofs.rows.MaskNumbers.{bits_length, bits_set, bits_within}
use Rattle.acl_normal.proofs.rows.RowsAlike.{order_alike, outline_taken, rows_alike}

-- there are as many masks as ACEs
masks_count : (s : Inside) → IsRemaining s → length (mask_numbers s.masks.items) ≡ length s.aces.items
masks_count s right = bits_length s.masks.items ∙ omega (arith, right.masks, s.masks.ok)

-- what remains has as many ACEs as the list
pub length_remaining : (s : Inside) → IsRemaining s → length (remaining_of s) ≡ length s.aces.items
length_remaining s right =
    length_shown s.aces.items _
    (length_left (mask_numbers s.masks.items) s.rows.items (mask_numbers s.left.items) ∙ masks_count s right)

-- what remains has the outline of the ACEs
pub outline_of : (s : Inside) → IsRemaining s → nothing_left (remaining_of s) ≡ nothing_left (aces_in s.aces.items)
outline_of s right =
    outline_shown s.aces.items _
    (length_left (mask_numbers s.masks.items) s.rows.items (mask_numbers s.left.items) ∙ masks_count s right)

-- the row of a place is one of the rows for which a mask is kept
pub row_of_place : (s : Inside) (i : ℕ) → IsRemaining s → i < length (remaining_of s)
    → slice_index_or s.rows.items i 0 < length s.left.items
row_of_place s i right l =
    let xs = remaining_of s in
    let below = row_below (key_here xs i).0 xs (named_here xs i l) in
    omega (arith, right.list.rows.at i l, below, length_remaining s right, right.left, s.left.ok)

-- the row of a principal that is named is one of the rows for which a mask is kept
pub row_of_named : (s : Inside) (row : ℕ) (p : Principal) → IsRemaining s → IsRowOf row p (remaining_of s)
    → row < length s.left.items
row_of_named s row p right at_row =
    let below = row_below p (remaining_of s) at_row.named in
    omega (arith, below, at_row.is, length_remaining s right, right.left, s.left.ok)

-- the row that indexing gives is that of the place
pub row_there : (s : Inside) (i d : ℕ) → IsRemaining s → i < length (remaining_of s)
    → slice_index_or s.rows.items i d ≡ slice_index_or s.rows.items i 0
row_there s i d right l = get_or_default s.rows.items i d 0 (omega (arith, l, right.list.rows.count))

-- the place that indexing gives in the order is one of the list
pub order_there : (s : Inside) (i d n : ℕ) → IsRemaining s → i < length (remaining_of s)
    → n ≡ slice_index_or s.order.items i d → (n ≡ slice_index_or s.order.items i 0) × (n < length (remaining_of s))
order_there s i d n right l is = (same, omega (arith, same, right.list.order.within i l))
  where
    same : n ≡ slice_index_or s.order.items i 0
    same = is ∙ get_or_default s.order.items i d 0 (omega (arith, l, right.list.order.count))

-- the mask that remains at a place is what its row has left of the mask there
pub mask_remaining : (s : Inside) (i : ℕ) → IsRemaining s → i < length (remaining_of s)
    → mask_here (remaining_of s) i
    ≡ bit_and (slice_index_or (mask_numbers s.masks.items) i 0)
    (slice_index_or (mask_numbers s.left.items) (slice_index_or s.rows.items i 0) 0)
mask_remaining s i right l =
    mask_shown s.aces.items _ i
    (length_left (mask_numbers s.masks.items) s.rows.items (mask_numbers s.left.items) ∙ masks_count s right)
    ∙ left_at (mask_numbers s.masks.items) s.rows.items (mask_numbers s.left.items) i
    (omega (arith, right.list.rows.count, length_remaining s right, masks_count s right))
    (omega (arith, l, length_remaining s right, masks_count s right))

-- if a row leaves out bits, they are taken out of its principal
pub taken_view : (s : Inside) (row m : ℕ) (p : Principal) → IsRemaining s → IsRowOf row p (remaining_of s)
    → with_masks s.aces.items (masks_left (mask_numbers s.masks.items) s.rows.items
    (slice_set (mask_numbers s.left.items) row (without (slice_index_or (mask_numbers s.left.items) row 0) m)))
    ≡ take_out p m (remaining_of s)
taken_view s row m p right at_row =
    row_taken p m row s.aces.items (mask_numbers s.masks.items) s.rows.items (mask_numbers s.left.items)
    (omega (arith, row_of_named s row p right at_row, bits_length s.left.items))
    (omega (arith, right.list.rows.count, length_remaining s right, masks_count s right)) right.list.tidy.quiet
    (λ i l e. row_same (key_here xs i).0 p xs (named_here xs i l) at_row.named
    (sym (right.list.rows.at i l) ∙ e ∙ at_row.is))
    (λ i l e. right.list.rows.at i l ∙ ap (λ v. row_of v xs) e ∙ sym at_row.is)
  where
    xs : List Ace
    xs = remaining_of s

-- the fields are right after a row leaves out bits
pub taken_right : (s : Inside) (row m : ℕ) (mask : Mask) (p : Principal) → IsRemaining s
    → IsRowOf row p (remaining_of s)
    → mask.bits ≡ without (slice_index_or (mask_numbers s.left.items) row 0) m
    → IsRemaining (record {
      aces = s.aces;
      masks = s.masks;
      rows = s.rows;
      order = s.order;
      left = with_item s.left row mask;
    })
taken_right s row m mask p right at_row is = record {
  few = right.few;
  masks = right.masks;
  left = right.left;
  list = record {
    tidy = subst IsTidy (sym view) (tidy_taken p m xs right.list.tidy);
    rights = λ b h. ap (λ v. column v b) view ∙ none_taken p m xs b (right.list.rights b h);
    rows = rows_alike xs _ s.rows.items (sym outline) right.list.rows;
    order = order_alike xs _ s.order.items (sym outline) right.list.order;
  };
}
  where
    xs : List Ace
    xs = remaining_of s

    view : with_masks s.aces.items (masks_left (mask_numbers s.masks.items) s.rows.items
        (mask_numbers (slice_set s.left.items row mask)))
        ≡ take_out p m xs
    view =
        ap (λ v. with_masks s.aces.items (masks_left (mask_numbers s.masks.items) s.rows.items v))
        (bits_set s.left.items row mask ∙ ap (slice_set (mask_numbers s.left.items) row) is)
        ∙ taken_view s row m p right at_row

    outline : nothing_left (with_masks s.aces.items (masks_left (mask_numbers s.masks.items) s.rows.items
        (mask_numbers (slice_set s.left.items row mask)))) ≡ nothing_left xs
    outline = ap nothing_left view ∙ outline_taken p m xs

-- ---- all is left

-- if each row has all rights left, all masks remain
pub all_remains : (aces : List AceRef) (masks : List Mask) (rows left : List ℕ) → length masks ≡ length aces
    → length left ≡ length aces → AreRowNumbers (aces_with aces masks) rows
    → ((i : ℕ) → i < length left → slice_index_or left i 0 ≡ all_rights)
    → masks_left (mask_numbers masks) rows left ≡ mask_numbers masks
all_remains aces masks rows left e f numbers full =
    all_left (mask_numbers masks) rows left (omega (arith, numbers.count, count, shown)) here
  where
    xs : List Ace
    xs = aces_with aces masks

    shown : length (mask_numbers masks) ≡ length aces
    shown = bits_length masks ∙ e

    count : length xs ≡ length aces
    count = length_shown aces (mask_numbers masks) shown

    here : (i : ℕ) → i < length (mask_numbers masks)
        → bit_and (slice_index_or (mask_numbers masks) i 0) (slice_index_or left (slice_index_or rows i 0) 0)
        ≡ slice_index_or (mask_numbers masks) i 0
    here i l =
        let within : i < length xs = omega (arith, l, count, shown) in
        let below = row_below (key_here xs i).0 xs (named_here xs i within) in
        let row : slice_index_or rows i 0 < length left = omega (arith, numbers.at i within, below, count, f) in
        ap (bit_and (slice_index_or (mask_numbers masks) i 0)) (full (slice_index_or rows i 0) row)
        ∙ bits_within masks i (omega (arith, l, bits_length masks))

-- the fields of a list from which nothing was emitted yet are right
pub begins_right : (s : Inside) → length s.aces.items < 2 ^ 32 → vec_len s.masks ≡ length s.aces.items
    → vec_len s.left ≡ length s.aces.items
    → IsNumbered (aces_with s.aces.items s.masks.items) s.rows.items s.order.items
    → masks_left (mask_numbers s.masks.items) s.rows.items (mask_numbers s.left.items) ≡ mask_numbers s.masks.items
    → IsRemaining s
begins_right s few masks left reduced all = record {
  few = few;
  masks = masks;
  left = left;
  list = subst (λ v. IsNumbered v s.rows.items s.order.items) view reduced;
}
  where
    view : aces_with s.aces.items s.masks.items ≡ remaining_of s
    view = ap (with_masks s.aces.items) (sym all)
