-- One bit of a list that begins with an ACE, or that is two lists.
use Rattle.std.proofs.Common.{◌≡◌, ℕ, true, false, List, ◌∷◌, refl}
use Rattle.acl_normal.proofs.Common.{Ace, ace_key, arith, column, cond, [], ◌++◌, ap, flags_for, has_bit, Principal, principal_of, ◌∙◌, AllByRecursion, Column}
pub use Rattle.acl_normal.specs.Normal.{counts}

-- an ACE that counts adds its key in front of the column
pub column_has : (b : ℕ) (a : Ace) (xs : List Ace) → counts b a ≡ true → column (a ∷ xs) b ≡ ace_key a ∷ column xs b
column_has b a xs h = rw h refl

-- an ACE that does not count adds no key
pub column_lacks : (b : ℕ) (a : Ace) (xs : List Ace) → counts b a ≡ false → column (a ∷ xs) b ≡ column xs b
column_lacks b a xs h = rw h refl

-- the column of a list is the key of its first ACE, if the ACE counts, and the column of the rest
pub column_first : (b : ℕ) (a : Ace) (xs : List Ace)
    → column (a ∷ xs) b ≡ cond (counts b a) (ace_key a ∷ column xs b) (column xs b)
column_first b a xs = grind arith

-- the column of two lists is that of the first, and then that of the second
pub column-append : (b : ℕ) (xs ys : List Ace) → column (xs ++ ys) b ≡ column xs b ++ column ys b
column-append b [] ys = refl
column-append b (a ∷ xs) ys = grind (arith, column-append b xs ys)

-- the flags that a principal needs have no INHERIT_ONLY
pub no_inherit_only : (p : Principal) → has_bit (flags_for p) 3 ≡ false
no_inherit_only p = grind arith

-- the column of a list that begins with an ACE with normal flags has its key if the ACE has the bit
pub column-cons : (b : ℕ) (a : Ace) (xs : List Ace) → a.flags ≡ flags_for (principal_of a)
    → column (a ∷ xs) b ≡ cond (has_bit a.mask b) (ace_key a ∷ column xs b) (column xs b)
column-cons b a xs flags = grind (arith, ap (λ v. has_bit v 3) flags, no_inherit_only (principal_of a))

-- an ACE with normal flags is the first key of the column of each of its bits
pub column_with : (b : ℕ) (a : Ace) (xs : List Ace) → a.flags ≡ flags_for (principal_of a) → has_bit a.mask b ≡ true
    → column (a ∷ xs) b ≡ ace_key a ∷ column xs b
column_with b a xs flags has = column-cons b a xs flags ∙ rw has refl

-- an ACE with normal flags is no key of the column of a bit that it lacks
pub column_lacking : (b : ℕ) (a : Ace) (xs : List Ace) → a.flags ≡ flags_for (principal_of a)
    → has_bit a.mask b ≡ false → column (a ∷ xs) b ≡ column xs b
column_lacking b a xs flags has = column-cons b a xs flags ∙ rw has refl

-- P holds of each principal of the column
abbrev pub HasOnly : (Principal → Type 0) → Column → Type 0
HasOnly P c = AllByRecursion (λ e. P e.0) c
