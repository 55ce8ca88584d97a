-- The second pass of the plain reduction: bits that aren't needed go.
use Rattle.std.proofs.Common.{◌≡◌, ℕ, ◌+◌, ◌<◌, List, [], ◌∷◌, ◌++◌, length, drop}
use Rattle.acl_normal.proofs.Common.{Ace, ace, ace_key, AceRef, aces_in, Allow, ap, append_assoc, arith, Column, column, default, default_at, drop_more, has_bit, is_inherit_only, is_needed, Kind, kind_eq, needed_keys, principal_of, slice_index_or, sym, ◌&&◌, ◌∙◌}
use Rattle.acl_normal.proofs.plain.Gathered.{Marks}
use Rattle.acl_normal.proofs.reduce.Passes.{list_of-append}
use Rattle.acl_normal.proofs.unique.Columns.{column-append}

-- the default, by the set of the bits that it allows
pub default_is : (allowed bit : ℕ) (c : Column) → has_bit allowed bit ≡ kind_eq (default c) Allow
    → default_at allowed bit ≡ default c
default_is allowed bit c is = grind arith

-- the keys of an ACE with its needed bits, before the needed keys of a column, are the needed keys of both
one_needed : (y r : Ace) (d : Kind) (c : Column) (bit : ℕ) → ace_key r ≡ ace_key y
    → is_inherit_only r ≡ is_inherit_only y
    → has_bit r.mask bit ≡ (has_bit y.mask bit && is_needed d (principal_of y) y.kind c)
    → column (r ∷ []) bit ++ needed_keys d c ≡ needed_keys d (column (y ∷ []) bit ++ c)
one_needed y r d c bit entry part bits = grind arith

-- the ACEs from a place on are the one at the place and those after it
pub list_of-from : (xs : List AceRef) (x : AceRef) (i : ℕ) → i < length xs → x ≡ slice_index_or xs i x
    → aces_in (drop i xs) ≡ ace x ∷ aces_in (drop (i + 1) xs)
list_of-from xs x i lt is =
    ap aces_in (drop_more xs i x lt) ∙ ap (λ y. ace y ∷ aces_in (drop (i + 1) xs)) (sym is)

-- with the needed bits of the next ACE, the needed keys of a column are still those of the whole
pub needed_more : (xs : List AceRef) (y : AceRef) (kept : List AceRef) (r : AceRef) (i allowed : ℕ) → i < length xs
    → y ≡ slice_index_or xs i y → ace_key (ace r) ≡ ace_key (ace y)
    → is_inherit_only (ace r) ≡ is_inherit_only (ace y)
    → Marks allowed (λ bit. kind_eq (default (column (aces_in xs) bit)) Allow)
    → Marks r.mask.bits (λ bit. has_bit y.mask.bits bit
    && is_needed (default_at allowed bit) (principal_of (ace y)) y.kind (column (aces_in (drop (i + 1) xs)) bit))
    → (bit : ℕ) (whole : Column)
    → column (aces_in kept) bit ++ needed_keys (default (column (aces_in xs) bit)) (column (aces_in (drop i xs)) bit)
    ≡ whole
    → column (aces_in (kept ++ r ∷ [])) bit
    ++ needed_keys (default (column (aces_in xs) bit)) (column (aces_in (drop (i + 1) xs)) bit) ≡ whole
needed_more xs y kept r i allowed lt is entry part marks mask bit whole so_far =
    let d = default (column (aces_in xs) bit) in
    let rest = column (aces_in (drop (i + 1) xs)) bit in
    let known = default_is allowed bit (column (aces_in xs) bit) (marks bit) in
    ap (λ v. column v bit ++ needed_keys d rest) (list_of-append kept (r ∷ []))
    ∙ ap (λ v. v ++ needed_keys d rest) (column-append bit (aces_in kept) (ace r ∷ []))
    ∙ append_assoc (column (aces_in kept) bit) (column (ace r ∷ []) bit) (needed_keys d rest)
    ∙ ap (λ v. column (aces_in kept) bit ++ v) (one_needed (ace y) (ace r) d rest bit entry part
    (mask bit ∙ ap (λ k. has_bit y.mask.bits bit && is_needed k (principal_of (ace y)) y.kind rest) known))
    ∙ ap (λ v. column (aces_in kept) bit ++ needed_keys d v)
    (sym (column-append bit (ace y ∷ []) (aces_in (drop (i + 1) xs)))
    ∙ ap (λ v. column v bit) (sym (list_of-from xs y i lt is)))
    ∙ so_far
