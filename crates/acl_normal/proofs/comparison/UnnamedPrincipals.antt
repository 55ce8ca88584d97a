-- The ACEs of a list that have a right, and principals that none of these ACEs names.
use Rattle.acl_normal.proofs.Common.{[], Ace, ap, arith, Bool, column, cond, everyone, false, has_bit, is_allow, is_granted_to, List, Principal, principal_eq, principal_of, refl, sym, takes_part, true, ℕ, ◌&&◌, ◌||◌, ◌∙◌, ◌∷◌, ◌≡◌}
use Rattle.acl_normal.proofs.comparison.SetEvaluation.{granted_to-cons}
use Rattle.acl_normal.specs.internal.comparison.Columns.{IsUnnamed, with_right}

-- an ACE that has the bit and takes part is the first of the column, and any other is not in it
column_first : (a : Ace) (list : List Ace) (bit : ℕ)
    → column (a ∷ list) bit
    ≡ cond (has_bit a.mask bit && takes_part a) ((principal_of a, a.kind) ∷ column list bit) (column list bit)
column_first a list bit = grind arith

-- the ACEs with the right have the column of the list
pub column_kept : (bit : ℕ) (list : List Ace) → column (with_right bit list) bit ≡ column list bit
column_kept bit [] = refl
column_kept bit (a ∷ list) = go (has_bit a.mask bit) refl (column_kept bit list)
  where
    go : (t : Bool) → has_bit a.mask bit ≡ t → column (with_right bit list) bit ≡ column list bit
        → column (with_right bit (a ∷ list)) bit ≡ column (a ∷ list) bit
    go true e later = ap (λ t. column (cond t (a ∷ with_right bit list) (with_right bit list)) bit) e
        ∙ column_first a (with_right bit list) bit
        ∙ ap (λ v. cond (has_bit a.mask bit && takes_part a) ((principal_of a, a.kind) ∷ v) v) later
        ∙ sym (column_first a list bit)
    go false e later = ap (λ t. column (cond t (a ∷ with_right bit list) (with_right bit list)) bit) e
        ∙ later
        ∙ sym (column_first a list bit
        ∙ ap (λ t. cond (t && takes_part a) ((principal_of a, a.kind) ∷ column list bit) (column list bit)) e)

-- a list grants what its ACEs with the right grant
pub granted_kept : (bit : ℕ) (list : List Ace) (set : List Principal)
    → is_granted_to (with_right bit list) set bit ≡ is_granted_to list set bit
granted_kept bit list set = grind (arith, column_kept bit list)

-- an ACE in front that concerns the last principal only as it concerns everyone
behind : (t s e x y k g h : Bool) → g ≡ h → (t ≡ true → (s && (e || (y || false))) ≡ (s && e))
    → cond ((t && s) && (e || (x || (y || false)))) k g ≡ cond ((t && s) && (e || (x || false))) k h
behind true s e x y k g h i l = grind (arith, i, l refl)
behind false s e x y k g h i l = i

-- with such a principal, another is granted what it is granted alone
pub unnamed_pair : (list : List Ace) (bit : ℕ) (p q : Principal) → IsUnnamed list bit q
    → is_granted_to list (p ∷ q ∷ []) bit ≡ is_granted_to list (p ∷ []) bit
unnamed_pair [] bit p q h = refl
unnamed_pair (a ∷ list) bit p q h =
    granted_to-cons a list (p ∷ q ∷ []) bit
    ∙ behind (has_bit a.mask bit) (takes_part a) (principal_eq (principal_of a) everyone)
    (principal_eq (principal_of a) p) (principal_eq (principal_of a) q) (is_allow a.kind)
    (is_granted_to list (p ∷ q ∷ []) bit) (is_granted_to list (p ∷ []) bit)
    (unnamed_pair list bit p q (record { each = h.each.1 })) h.each.0
    ∙ sym (granted_to-cons a list (p ∷ []) bit)
