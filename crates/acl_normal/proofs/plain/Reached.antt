-- The first pass of the plain reduction: shadowed bits go.
use Rattle.std.proofs.Common.{◌≡◌, ℕ, ◌+◌, ◌<◌, List, [], ◌∷◌, ◌++◌, length, take, append-nil}
use Rattle.acl_normal.proofs.Common.{Ace, ace, ace_key, AceRef, aces_in, ap, append_assoc, arith, Column, column, has_bit, is_inherit_only, IsDifference, not, principal_of, slice_index_or, sym, unshadowed, ◌&&◌, ◌∙◌}
use Rattle.acl_normal.specs.internal.Best.{is_shadowed}
use Rattle.acl_normal.proofs.plain.Gathered.{Marks}
use Rattle.acl_normal.proofs.reduce.Passes.{list_of-append, list_of-more}
use Rattle.acl_normal.proofs.unique.Columns.{column-append}

-- the unshadowed keys of two columns are those of the first, and those of the second after the first
unshadowed-append : (before c d : Column)
    → unshadowed before (c ++ d) ≡ unshadowed before c ++ unshadowed (before ++ c) d
unshadowed-append before [] d = grind (arith, append-nil)
unshadowed-append before ((p, k) ∷ c) d =
    grind (arith, unshadowed-append (before ++ (p, k) ∷ []) c d, append_assoc)

-- the column of an ACE without the bits that are shadowed is its unshadowed column
one_reached : (y r : Ace) (before : List Ace) (bit : ℕ) → ace_key r ≡ ace_key y
    → is_inherit_only r ≡ is_inherit_only y
    → has_bit r.mask bit ≡ (has_bit y.mask bit && not (is_shadowed (principal_of y) before bit))
    → column (r ∷ []) bit ≡ unshadowed (column before bit) (column (y ∷ []) bit)
one_reached y r before bit entry part bits = grind arith

-- the columns with the next ACE, without its shadowed bits, are those of one place more unshadowed
pub reached_more : (xs : List AceRef) (y : AceRef) (kept : List AceRef) (r : AceRef) (i s : ℕ) → i < length xs
    → y ≡ slice_index_or xs i y → ace_key (ace r) ≡ ace_key (ace y)
    → is_inherit_only (ace r) ≡ is_inherit_only (ace y)
    → Marks s (is_shadowed (principal_of (ace y)) (aces_in (take i xs))) → IsDifference y.mask.bits s r.mask.bits
    → ((bit : ℕ) → column (aces_in kept) bit ≡ unshadowed [] (column (aces_in (take i xs)) bit))
    → (bit : ℕ) → column (aces_in (kept ++ r ∷ [])) bit ≡ unshadowed [] (column (aces_in (take (i + 1) xs)) bit)
reached_more xs y kept r i s lt is entry part shadow mask so_far bit =
    ap (λ v. column v bit) (list_of-append kept (r ∷ []))
    ∙ column-append bit (aces_in kept) (ace r ∷ [])
    ∙ rw (
      so_far bit,
      one_reached (ace y) (ace r) (aces_in (take i xs)) bit entry part
          (mask bit ∙ ap (λ b. has_bit y.mask.bits bit && not b) (shadow bit)),
    )
    (sym (unshadowed-append [] (column (aces_in (take i xs)) bit) (column (ace y ∷ []) bit)))
    ∙ ap (unshadowed []) (sym (column-append bit (aces_in (take i xs)) (ace y ∷ [])))
    ∙ ap (λ v. unshadowed [] (column v bit)) (sym (list_of-more xs y i lt is))
