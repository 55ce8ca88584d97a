-- What the public calls on merged rows say, from what those on one bit say.
use Rattle.std.proofs.Common.{◌≡◌, ℕ, ◌+◌, ◌<◌, ◌≤◌, Bool, true, false, List}
use Rattle.acl_normal.proofs.Common.{Ace, Allow, ap, arith, bits_from_mask, cases_eq, column, Deny, false_from_ne_true, has_bit, IfNone, IfSome, is_free, IsMask, IsTrue, Kind, None, Option, option_map, Principal, Some, subst, ⊎_elim, ◌||◌, ◌↔◌, ◌∙◌}
use Rattle.acl_perm.specs.declared.bit.Bit.{Bit}
use Rattle.acl_normal.specs.Left.{HasFree, IsLowest}
use Rattle.acl_normal.specs.internal.NextRight.{IsNextRight, LacksFrom}
use Rattle.acl_normal.proofs.unique.Bits.{below}

-- a right is one of the first 21 bits
pub right_below : (bits b : ℕ) → IsMask bits → has_bit bits b ≡ true → b < 21
right_below bits b is h = below b (bits_from_mask bits b is h)

-- a set of rights has no bit from 21 on
pub no_right_above : (bits : ℕ) → IsMask bits → (b : ℕ) → 21 ≤ b → has_bit bits b ≡ false
no_right_above bits is b l = false_from_ne_true _ (λ h. absurd (omega (arith, l, right_below bits b is h)))

-- ---- whether a right is free

-- whether the principal is free at a bit, with either kind
abbrev pub free_either : List Ace → Principal → ℕ → Bool
free_either list p b = is_free (column list b) (p, Deny) || is_free (column list b) (p, Allow)

-- at none of the bits below n that the set has is the principal free
abbrev pub NoneFree : List Ace → Principal → ℕ → ℕ → Type 0
NoneFree list p bits n = (b : ℕ) → b < n → has_bit bits b ≡ true → free_either list p b ≡ false

-- if the principal is not free at bit n, it is free at none of the bits below n + 1
pub none_free_more : (list : List Ace) (p : Principal) (bits n : ℕ) → NoneFree list p bits n
    → (has_bit bits n ≡ true → free_either list p n ≡ false) → NoneFree list p bits (n + 1)
none_free_more list p bits n before here b l h = ⊎_elim
    (λ (e : b ≡ n). ap (free_either list p) e ∙ here (subst (λ v. has_bit bits v ≡ true) e h))
    (λ (other : b ≡ n → ⊥). before b (grind arith) h) (cases_eq b n)

-- if the set lacks bit n, the principal is free at none of its bits below n + 1
pub none_free_absent : (list : List Ace) (p : Principal) (bits n : ℕ) → NoneFree list p bits n
    → has_bit bits n ≡ false → NoneFree list p bits (n + 1)
none_free_absent list p bits n before lacks = none_free_more list p bits n before (λ has. cc)

-- a principal that is free at none of the first 21 bits of a set of rights is free at none of the set
pub free_nowhere : (list : List Ace) (p : Principal) (bits : ℕ) → IsMask bits → NoneFree list p bits 21
    → IsTrue false ↔ HasFree list p bits
free_nowhere list p bits is none = (λ t. absurd cc, λ (b, kind, has, free). absurd (clash b kind has free))
  where
    clash : (b : ℕ) (kind : Kind) → has_bit bits b ≡ true → is_free (column list b) (p, kind) ≡ true → ⊥
    clash b Deny has free = grind (arith, none b (right_below bits b is has) has)
    clash b Allow has free = grind (arith, none b (right_below bits b is has) has)

-- ---- the lowest right

-- the next right from bit 0 on is the lowest, and a set without a next has no lowest
pub lowest_is : (bits : ℕ) (next : Option Bit) → IsMask bits → IfSome next (λ right. IsNextRight bits 0 right.bit)
    → IfNone next (LacksFrom bits 0 21) → (b : ℕ) → IsLowest b bits → option_map (λ right. right.bit) next ≡ Some b
lowest_is bits None is some none b (has, before) =
    absurd (grind (arith, none b (omega arith) (right_below bits b is has)))
lowest_is bits (Some right) is some none b (has, before) =
    ap Some (grind (arith, before right.bit, some.has, some.lacks b (omega arith)))
