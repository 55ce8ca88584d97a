-- The masks of what later ACEs have, and of what everyone is allowed.
use Rattle.acl_normal.proofs.Common.{[], Ace, Allow, ap, Bool, column, cond, counts, default, default_at, Deny, everyone, false, first_kind, has_bit, HasOnceColumns, is_either, is_inherit_only, IsOnce, IsUnion, kind_eq, length, List, None, principal_eq, principal_of, refl, slice_index_or, sym, take, take_all, take_more, true, ℕ, ◌&&◌, ◌++◌, ◌+◌, ◌<◌, ◌||◌, ◌∙◌, ◌∷◌, ◌≡◌, ◌≤◌, ace_key, Some, Kind, Option, subst}
use Rattle.acl_normal.proofs.unique.Bits.{no_bits_of_zero}
use Rattle.acl_normal.proofs.unique.Names.{principal_eq_same}
use Rattle.acl_normal.proofs.unique.Normal.{counts_mask}
use Rattle.acl_normal.proofs.unique.Columns.{column_has, column_lacks}
use Rattle.std.proofs.Math.Bool.{or_assoc, or-false}

-- ---- the default

-- an ACE of everyone that allows has the bit
abbrev pub allowed_in : ℕ → List Ace → Bool
allowed_in b [] = false
allowed_in b (a ∷ xs) =
    (counts b a && (principal_eq (principal_of a) everyone && kind_eq a.kind Allow)) || allowed_in b xs

-- if a column has no key of everyone, no ACE allows everyone the bit
none_allowed : (b : ℕ) (xs : List Ace) → first_kind (is_either everyone everyone) (column xs b) ≡ None
    → allowed_in b xs ≡ false
none_allowed b [] h = refl
none_allowed b (a ∷ xs) h = go (counts b a) refl (none_allowed b xs)
  where
    Rest : Type 0
    Rest = first_kind (is_either everyone everyone) (column xs b) ≡ None → allowed_in b xs ≡ false

    others : (t : Bool) → principal_eq (principal_of a) everyone ≡ t
        → first_kind (is_either everyone everyone) (ace_key a ∷ column xs b) ≡ None → Rest
        → ((t && kind_eq a.kind Allow) || allowed_in b xs) ≡ false
    others true e none ih = absurd (found (rw e at none))
      where
        found : ◌≡◌ {A = Option Kind} (Some a.kind) None → ⊥
        found f = cc
    others false e none ih = ih (rw e at none)

    go : (t : Bool) → counts b a ≡ t → Rest → allowed_in b (a ∷ xs) ≡ false
    go false e ih =
        rw e (ih (subst (λ c. first_kind (is_either everyone everyone) c ≡ None) (column_lacks b a xs e) h))
    go true e ih =
        rw e (others (principal_eq (principal_of a) everyone) refl
        (subst (λ c. first_kind (is_either everyone everyone) c ≡ None) (column_has b a xs e) h) ih)

-- if a column has each principal once, its default is to allow where an ACE allows everyone the bit
pub default_is : (b : ℕ) (xs : List Ace) → IsOnce (column xs b)
    → cond (allowed_in b xs) Allow Deny ≡ default (column xs b)
default_is b [] once = refl
default_is b (a ∷ xs) once = go (counts b a) refl (default_is b xs)
  where
    Rest : Type 0
    Rest = IsOnce (column xs b) → cond (allowed_in b xs) Allow Deny ≡ default (column xs b)

    own : (k : Kind) → cond (kind_eq k Allow || false) Allow Deny ≡ k
    own Deny = refl
    own Allow = refl

    first : (t : Bool) → principal_eq (principal_of a) everyone ≡ t → IsOnce (ace_key a ∷ column xs b) → Rest
        → cond ((t && kind_eq a.kind Allow) || allowed_in b xs) Allow Deny ≡ default (ace_key a ∷ column xs b)
    first true e each ih =
        let lacks : first_kind (is_either everyone everyone) (column xs b) ≡ None =
        subst (λ p. first_kind (is_either p p) (column xs b) ≡ None)
        (principal_eq_same (principal_of a) everyone e) each.0 in
        rw (e, none_allowed b xs lacks) (own a.kind)
    first false e each ih = rw e (ih each.1)

    go : (t : Bool) → counts b a ≡ t → Rest
        → cond (allowed_in b (a ∷ xs)) Allow Deny ≡ default (column (a ∷ xs) b)
    go false e ih = rw (column_lacks b a xs e, e) (ih (subst IsOnce (column_lacks b a xs e) once))
    go true e ih =
        rw (column_has b a xs e, e) (first (principal_eq (principal_of a) everyone) refl
        (subst IsOnce (column_has b a xs e) once) ih)

-- what the loop keeps: the bits that everyone is allowed by the places that are done
abbrev pub AllowsTo : List Ace → ℕ → ℕ → Type 0
AllowsTo xs n bits = (b : ℕ) → has_bit bits b ≡ allowed_in b (take n xs)

-- before the first place everyone is allowed no bit
pub allows_start : (xs : List Ace) → AllowsTo xs 0 0
allows_start xs b = no_bits_of_zero b

-- everyone is allowed a bit by a list with one ACE more if the list or the ACE allows it
allowed_push : (b : ℕ) (xs : List Ace) (a : Ace) → allowed_in b (xs ++ a ∷ [])
    ≡ (allowed_in b xs || (counts b a && (principal_eq (principal_of a) everyone && kind_eq a.kind Allow)))
allowed_push b [] a = or-false (counts b a && (principal_eq (principal_of a) everyone && kind_eq a.kind Allow))
allowed_push b (x ∷ xs) a =
    ap (λ v. (counts b x && (principal_eq (principal_of x) everyone && kind_eq x.kind Allow)) || v)
    (allowed_push b xs a)
    ∙ sym (or_assoc (counts b x && (principal_eq (principal_of x) everyone && kind_eq x.kind Allow)) (allowed_in b xs)
    (counts b a && (principal_eq (principal_of a) everyone && kind_eq a.kind Allow)))

-- everyone is allowed a bit by the ACEs up to a place if those before it or the one there allow it
allowed_more : (xs : List Ace) (n bits b : ℕ) (a : Ace) → AllowsTo xs n bits → n < length xs
    → slice_index_or xs n a ≡ a → allowed_in b (take (n + 1) xs)
    ≡ (has_bit bits b || (counts b a && (principal_eq (principal_of a) everyone && kind_eq a.kind Allow)))
allowed_more xs n bits b a h l is =
    ap (allowed_in b) (take_more xs n a l ∙ ap (λ v. take n xs ++ v ∷ []) is) ∙ allowed_push b (take n xs) a
    ∙ ap (λ t. t || (counts b a && (principal_eq (principal_of a) everyone && kind_eq a.kind Allow))) (sym (h b))

-- with what the next ACE allows everyone, the bits are those of one place more
pub allows_more : (xs : List Ace) (n bits added more : ℕ) (a : Ace) → AllowsTo xs n bits → n < length xs
    → slice_index_or xs n a ≡ a → (is_inherit_only a ≡ true → a.mask ≡ 0)
    → ((b : ℕ) → has_bit added b
    ≡ (has_bit a.mask b && (principal_eq (principal_of a) everyone && kind_eq a.kind Allow)))
    → IsUnion bits added more → AllowsTo xs (n + 1) more
allows_more xs n bits added more a h l is quiet by both b =
    both b ∙ ap (λ t. has_bit bits b || t)
    (by b ∙ ap (λ t. t && (principal_eq (principal_of a) everyone && kind_eq a.kind Allow))
    (sym (counts_mask b a quiet)))
    ∙ sym (allowed_more xs n bits b a h l is)

-- after the last place the bits give the default of each column
pub allows_all : (xs : List Ace) (n bits : ℕ) → AllowsTo xs n bits → length xs ≤ n → HasOnceColumns xs → (b : ℕ)
    → default_at bits b ≡ default (column xs b)
allows_all xs n bits h l once b =
    ap (λ t. cond t Allow Deny) (h b ∙ ap (allowed_in b) (take_all n xs l)) ∙ default_is b xs (once b)
