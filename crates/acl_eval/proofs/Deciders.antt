-- The ACE that decides: what is granted and what is denied follow from it.
use Rattle.std.proofs.Common.{◌≡◌, ℕ, Bool, true, false, List, [], ◌∷◌, Some, refl}
use Rattle.std.specs.Prelude.{◌↔◌, ◌&&◌, not, IsTrue}
use Rattle.std.proofs.lemmas.Bool.{false≢true}
use Rattle.acl_perm.specs.Bits.{has_bit}
use Rattle.acl_perm.specs.Situation.{Situation}
use Rattle.acl_perm.specs.Kind.{is_allow}
use Rattle.acl_perm.specs.declared.kind.Kind.{Kind}
use Rattle.acl_perm.specs.declared.kind.Kind.TheVariants.{Deny, Allow}
use Rattle.acl_nfs4.specs.Ace.{Ace}
use Rattle.acl_eval.specs.Deciding.{AreDecidedBy, decides, deciding_kind}
use Rattle.acl_eval.specs.Grant.{Grant, grants_bit}
use Rattle.acl_eval.specs.internal.EachRightBody.{is_undecided}
use Rattle.acl_eval.proofs.Columns.{bit_at_first}

-- ---- what is granted by it

-- the test for ALLOW holds if and only if the kind is ALLOW
allow_is : (k : Kind) → IsTrue (is_allow k) ↔ (Some k ≡ Some Allow)
allow_is Deny = (λ h. absurd cc, λ e. absurd cc)
allow_is Allow = (λ h. refl, λ e. refl)

-- a bit is granted if and only if an ALLOW decides it
pub granted_is : (list : List Ace) (s : Situation) (bit : ℕ)
    → IsTrue (grants_bit list s bit) ↔ (deciding_kind list s bit ≡ Some Allow)
granted_is [] s bit = (λ h. absurd cc, λ e. absurd cc)
granted_is (a ∷ list) s bit = by (granted_is list s bit) (decides s bit a) refl
  where
    by : IsTrue (grants_bit list s bit) ↔ (deciding_kind list s bit ≡ Some Allow) → (t : Bool) → decides s bit a ≡ t
        → IsTrue (grants_bit (a ∷ list) s bit) ↔ (deciding_kind (a ∷ list) s bit ≡ Some Allow)
    by rest true e = rw (bit_at_first a list s bit, e) (allow_is a.kind)
    by rest false e = rw (bit_at_first a list s bit, e) rest

-- a request is granted if and only if an ALLOW decides each of its bits
pub granted_by_allows : (list : List Ace) (s : Situation) (request : ℕ) → Grant list s request
    ↔ ((bit : ℕ) → IsTrue (has_bit request bit) → deciding_kind list s bit ≡ Some Allow)
granted_by_allows list s request = (
  λ g bit h. (granted_is list s bit).0 (g bit h),
  λ g bit h. (granted_is list s bit).1 (g bit h),
)

-- ---- what is denied by it

-- the kind is not ALLOW if and only if it is DENY
deny_is : (k : Kind) → IsTrue (not (is_allow k) && true) ↔ (Some k ≡ Some Deny)
deny_is Deny = (λ h. refl, λ e. refl)
deny_is Allow = (λ h. absurd cc, λ e. absurd cc)

-- a bit is neither granted nor undecided if and only if a DENY decides it
pub denied_is : (list : List Ace) (s : Situation) (bit : ℕ)
    → IsTrue (not (grants_bit list s bit) && not (is_undecided s bit list)) ↔ (deciding_kind list s bit ≡ Some Deny)
denied_is [] s bit = (λ h. absurd cc, λ e. absurd cc)
denied_is (a ∷ list) s bit = by (denied_is list s bit) (decides s bit a) refl
  where
    by : IsTrue (not (grants_bit list s bit) && not (is_undecided s bit list))
        ↔ (deciding_kind list s bit ≡ Some Deny) → (t : Bool) → decides s bit a ≡ t
        → IsTrue (not (grants_bit (a ∷ list) s bit) && not (is_undecided s bit (a ∷ list)))
        ↔ (deciding_kind (a ∷ list) s bit ≡ Some Deny)
    by rest true e = rw (bit_at_first a list s bit, e) (deny_is a.kind)
    by rest false e = rw (bit_at_first a list s bit, e) rest

-- what is granted of a mask is what ALLOWs decide
pub allows_decide : (list : List Ace) (s : Situation) (mask granted : ℕ)
    → ((bit : ℕ) → has_bit granted bit ≡ (has_bit mask bit && grants_bit list s bit))
    → AreDecidedBy Allow list s mask granted
allows_decide list s mask granted is bit = rw (is bit) (by (has_bit mask bit) refl)
  where
    by : (m : Bool) → has_bit mask bit ≡ m
        → IsTrue (m && grants_bit list s bit) ↔ (IsTrue m × (deciding_kind list s bit ≡ Some Allow))
    by true e = (λ h. (refl, (granted_is list s bit).0 h), λ h. (granted_is list s bit).1 h.1)
    by false e = (λ h. absurd cc, λ h. absurd (false≢true h.0))

-- what is neither granted of a mask nor left of it is what DENYs decide
pub denies_decide : (list : List Ace) (s : Situation) (mask granted left denied : ℕ)
    → ((bit : ℕ) → has_bit granted bit ≡ (has_bit mask bit && grants_bit list s bit))
    → ((bit : ℕ) → has_bit left bit ≡ (has_bit mask bit && is_undecided s bit list))
    → ((bit : ℕ) → has_bit denied bit ≡ (has_bit mask bit && (not (has_bit granted bit) && not (has_bit left bit))))
    → AreDecidedBy Deny list s mask denied
denies_decide list s mask granted left denied is rest others bit =
    rw (others bit, is bit, rest bit) (by (has_bit mask bit))
  where
    by : (m : Bool)
        → IsTrue (m && (not (m && grants_bit list s bit) && not (m && is_undecided s bit list)))
        ↔ (IsTrue m × (deciding_kind list s bit ≡ Some Deny))
    by true = (λ h. (refl, (denied_is list s bit).0 h), λ h. (denied_is list s bit).1 h.1)
    by false = (λ h. absurd cc, λ h. absurd (false≢true h.0))
