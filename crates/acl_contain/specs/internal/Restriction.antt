-- Which rights of the ALLOWs of a list stay under a bound (this library's own).
use Rattle.std.specs.Prelude.{◌≡◌, ℕ, zero, suc, Bool, true, false, not, if◌then◌else◌, ◌&&◌, ◌<◌, IsTrue, List, [], ◌∷◌, length, slice_index_or}
use Rattle.acl_eval.specs.Column.{takes_part}
use Rattle.acl_eval.specs.Grant.{grants_bit}
use Rattle.acl_nfs4.specs.Ace.{Ace}
use Rattle.acl_nfs4.specs.Who.{principal_of}
use Rattle.acl_normal.specs.Keys.{kind_eq}
use Rattle.acl_normal.specs.internal.comparison.FirstPlaces.{no_ace}
use Rattle.acl_perm.specs.Bits.{all_rights, has_bit}
use Rattle.acl_perm.specs.Principal.{Principal}
use Rattle.acl_perm.specs.Situation.{IsSituation, Situation, matches}
use Rattle.acl_perm.specs.declared.kind.Kind.TheVariants.{Allow, Deny}
use Rattle.acl_contain.specs.Removal.{IsRemoval}

-- the ACE takes part, has the bit, and names a principal that passes a test
abbrev pub is_hit : (Principal → Bool) → ℕ → Ace → Bool
is_hit test bit a = (has_bit a.mask bit && takes_part a) && test (principal_of a)

-- a DENY before a place is hit
abbrev pub is_denied_before : (Principal → Bool) → ℕ → List Ace → ℕ → Bool
is_denied_before test bit [] place = false
is_denied_before test bit (a ∷ list) zero = false
is_denied_before test bit (a ∷ list) (suc place) =
    if kind_eq a.kind Deny && is_hit test bit a then true else is_denied_before test bit list place

-- the DENYs before the ACE at a place, and then it, grant the requester the bit, if it is an ALLOW that has the bit
abbrev pub is_reached : List Ace → ℕ → ℕ → Situation → Bool
is_reached list bit place s = is_hit (matches s) bit (slice_index_or list place no_ace)
    && not (is_denied_before (matches s) bit list place)

-- whoever reaches the ACE at a place gets the bit from the bound
abbrev pub Stays : List Ace → List Ace → ℕ → ℕ → Type 0
Stays list bound bit place = (s : Situation) → IsSituation s → IsTrue (is_reached list bit place s)
    → IsTrue (grants_bit bound s bit)

-- each right of an ALLOW stayed if and only if whoever gets it there gets it from the bound; all else is the same
pub record IsRestricted (list bound cut : List Ace) : Type 0 where
  pub removal : IsRemoval list cut
  pub stays : (bit place : ℕ) → place < length list → (slice_index_or list place no_ace).kind ≡ Allow
      → IsTrue (has_bit all_rights bit) → IsTrue (has_bit (slice_index_or cut place no_ace).mask bit)
      → Stays list bound bit place
  pub kept : (bit place : ℕ) → place < length list → (slice_index_or list place no_ace).kind ≡ Allow
      → IsTrue (has_bit (slice_index_or list place no_ace).mask bit) → Stays list bound bit place
      → IsTrue (has_bit (slice_index_or cut place no_ace).mask bit)
