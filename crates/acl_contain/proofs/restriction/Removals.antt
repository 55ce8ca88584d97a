-- What removals of a list grant.
use Rattle.acl_perm.proofs.Bools.{and_false_right}
use Rattle.acl_normal.proofs.Common.{Ace, Allow, Bool, Deny, List, Situation, [], and_from, and_parts, ap, arith, false, false≢true, has_bit, if◌then◌else◌, is_allow, kind_eq, Kind, length, matches, no_ace, refl, slice_index_or, suc, sym, takes_part, true, zero, ℕ, ◌&&◌, ◌<◌, ◌∙◌, ◌∷◌, ◌≡◌}
use Rattle.acl_eval.proofs.Columns.{bit_at_first}
use Rattle.acl_eval.specs.Grant.{grants_bit}
use Rattle.acl_contain.specs.Removal.{IsAceRemoval, IsRemoval}
use Rattle.acl_contain.specs.internal.Restriction.{is_hit, is_reached}

-- an ACE that is hit decides, and else the rest of the list does
pub granted_first : (a : Ace) (list : List Ace) (s : Situation) (bit : ℕ) → grants_bit (a ∷ list) s bit
    ≡ (if is_hit (matches s) bit a then is_allow a.kind else grants_bit list s bit)
granted_first a list s bit = grind (arith, bit_at_first a list s bit)

-- a cut ACE is hit only if the ACE is
cut_hit : (a cut : Ace) (s : Situation) (bit : ℕ) → IsAceRemoval a cut → is_hit (matches s) bit cut ≡ true
    → is_hit (matches s) bit a ≡ true
cut_hit a cut s bit c hit =
    grind (arith, c.flags, c.who, c.within bit)

-- a DENY is hit if and only if its cut is
cut_denied : (a cut : Ace) (s : Situation) (bit : ℕ) → IsAceRemoval a cut → a.kind ≡ Deny
    → is_hit (matches s) bit cut ≡ is_hit (matches s) bit a
cut_denied a cut s bit c deny = grind (arith, c.flags, c.who, c.denied deny)

-- whoever reaches an ACE reaches it behind one more ACE that is no DENY or is not hit
reached_behind : (a : Ace) (list : List Ace) (s : Situation) (bit place : ℕ)
    → (a.kind ≡ Deny → is_hit (matches s) bit a ≡ false) → is_reached list bit place s ≡ true
    → is_reached (a ∷ list) bit (suc place) s ≡ true
reached_behind a list s bit place quiet reached = by a.kind refl
  where
    by : (k : Kind) → a.kind ≡ k → is_reached (a ∷ list) bit (suc place) s ≡ true
    by Allow kind = rw kind reached
    by Deny kind = rw (kind, quiet kind) reached

-- whoever reaches an ACE behind another one reaches it without that one
reached_without : (a : Ace) (list : List Ace) (s : Situation) (bit place : ℕ)
    → is_reached (a ∷ list) bit (suc place) s ≡ true → is_reached list bit place s ≡ true
reached_without a list s bit place reached = by (kind_eq a.kind Deny && is_hit (matches s) bit a) refl
  where
    by : (t : Bool) → (kind_eq a.kind Deny && is_hit (matches s) bit a) ≡ t → is_reached list bit place s ≡ true
    by false quiet = rw quiet at reached
    by true denied = absurd (false≢true (sym (and_false_right (is_hit (matches s) bit
        (slice_index_or list place no_ace))) ∙ rw denied at reached))

-- nobody who hits a DENY reaches an ACE behind it
denied_blocks : (a : Ace) (list : List Ace) (s : Situation) (bit place : ℕ) → a.kind ≡ Deny
    → is_hit (matches s) bit a ≡ true → is_reached (a ∷ list) bit (suc place) s ≡ true → ⊥
denied_blocks a list s bit place deny hit reached = false≢true (sym (and_false_right (is_hit (matches s) bit
    (slice_index_or list place no_ace))) ∙ rw (deny, hit) at reached)

-- whoever gets a bit from a removal of a list reaches, in the list, an ALLOW that kept the bit
pub granted_reaches : (list cut : List Ace) (s : Situation) (bit : ℕ) (Good : Type 0) → IsRemoval list cut
    → ((place : ℕ) → place < length list → (slice_index_or list place no_ace).kind ≡ Allow
    → has_bit (slice_index_or cut place no_ace).mask bit ≡ true → is_reached list bit place s ≡ true → Good)
    → grants_bit cut s bit ≡ true → Good
granted_reaches [] [] s bit Good removal good granted = absurd (false≢true granted)
granted_reaches (a ∷ list) (c ∷ cut) s bit Good removal good granted =
    by (is_hit (matches s) bit c) refl a.kind refl (granted_reaches list cut s bit Good removal.1)
  where
    Later : Type 0
    Later = ((place : ℕ) → place < length list → (slice_index_or list place no_ace).kind ≡ Allow
        → has_bit (slice_index_or cut place no_ace).mask bit ≡ true → is_reached list bit place s ≡ true → Good)
        → grants_bit cut s bit ≡ true → Good

    later : is_hit (matches s) bit c ≡ false → (a.kind ≡ Deny → is_hit (matches s) bit a ≡ false) → Later → Good
    later missed quiet rest = rest
        (λ place l allow has reached. good (suc place) (omega (arith, l)) allow has
        (reached_behind a list s bit place quiet reached))
        (sym (granted_first c cut s bit ∙ rw missed refl) ∙ granted)

    by : (t : Bool) → is_hit (matches s) bit c ≡ t → (k : Kind) → a.kind ≡ k → Later → Good
    by true hit Allow kind rest = good 0 (omega arith) kind
        (and_parts (has_bit c.mask bit) _ (and_parts (has_bit c.mask bit && takes_part c) _ hit).0).0
        (and_from _ _ (cut_hit a c s bit removal.0 hit) refl)
    by true hit Deny kind rest = absurd (false≢true (sym (granted_first c cut s bit
        ∙ rw hit (ap is_allow (removal.0.kind ∙ kind))) ∙ granted))
    by false missed Allow kind rest = later missed (λ deny. cc) rest
    by false missed Deny kind rest =
        later missed (λ deny. sym (cut_denied a c s bit removal.0 deny) ∙ missed) rest
granted_reaches [] (c ∷ cut) s bit Good removal good granted = absurd removal
granted_reaches (a ∷ list) [] s bit Good removal good granted = absurd removal

-- whoever reaches an ALLOW of a list gets the bit from each removal of the list that has the bit there
pub reached_granted : (list cut : List Ace) (s : Situation) (bit place : ℕ) → IsRemoval list cut → place < length list
    → (slice_index_or list place no_ace).kind ≡ Allow → has_bit (slice_index_or cut place no_ace).mask bit ≡ true
    → is_reached list bit place s ≡ true → grants_bit cut s bit ≡ true
reached_granted [] [] s bit place removal l allow has reached = absurd (omega (arith, l))
reached_granted (a ∷ list) (c ∷ cut) s bit zero removal l allow has reached =
    granted_first c cut s bit ∙ grind (arith, removal.0.kind, removal.0.flags, removal.0.who, allow, has, reached)
reached_granted (a ∷ list) (c ∷ cut) s bit (suc place) removal l allow has reached =
    by (is_hit (matches s) bit c) refl a.kind refl
    (reached_granted list cut s bit place removal.1 (omega (arith, l)) allow has
    (reached_without a list s bit place reached))
  where
    by : (t : Bool) → is_hit (matches s) bit c ≡ t → (k : Kind) → a.kind ≡ k → grants_bit cut s bit ≡ true
        → grants_bit (c ∷ cut) s bit ≡ true
    by true hit Allow kind rest = granted_first c cut s bit ∙ rw hit (ap is_allow (removal.0.kind ∙ kind))
    by true hit Deny kind rest = absurd
        (denied_blocks a list s bit place kind (cut_hit a c s bit removal.0 hit) reached)
    by false missed k kind rest = granted_first c cut s bit ∙ rw missed rest
reached_granted [] (c ∷ cut) s bit place removal l allow has reached = absurd removal
reached_granted (a ∷ list) [] s bit place removal l allow has reached = absurd removal
