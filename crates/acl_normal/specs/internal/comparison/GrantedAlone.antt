-- What a list grants to each principal alone, if only this principal matches, and everyone (this library's own).
use Rattle.std.specs.Prelude.{◌≡◌, ℕ, ◌<◌, Bool, not, ◌&&◌, ◌||◌, List, [], ◌∷◌, length, slice_index_or}
use Rattle.acl_eval.specs.Grant.{is_allow}
use Rattle.acl_nfs4.specs.Ace.{Ace}
use Rattle.acl_normal.specs.internal.comparison.SetSearch.{is_granted_to}
use Rattle.acl_normal.specs.declared.comparison.granted_alone.Decision.{Decision}
use Rattle.acl_normal.specs.declared.comparison.granted_alone.GrantedAlone.{GrantedAlone}
use Rattle.acl_perm.specs.Bits.{has_bit}
use Rattle.acl_perm.specs.Principal.{Principal, everyone}
use Rattle.acl_perm.specs.declared.kind.Kind.{Kind}

-- one more ACE decides those of its rights that are not decided, here or elsewhere, and grants them if it allows
pub record DecidesMore (old : Decision) (kind : Kind) (mask elsewhere : ℕ) (new : Decision) : Type 0 where
  pub decided : (bit : ℕ) → has_bit new.decided.bits bit
      ≡ (has_bit old.decided.bits bit || (has_bit mask bit && not (has_bit elsewhere bit)))
  pub granted : (bit : ℕ) → has_bit new.granted.bits bit ≡ (has_bit old.granted.bits bit
      || (is_allow kind && ((has_bit mask bit && not (has_bit elsewhere bit)) && not (has_bit old.decided.bits bit))))

-- a right is granted by the ACEs that name the principal, or by those that name everyone if the others do not decide it
abbrev pub is_granted_alone : Decision → Decision → ℕ → Bool
is_granted_alone named all bit =
    has_bit named.granted.bits bit || (has_bit all.granted.bits bit && not (has_bit named.decided.bits bit))

-- what is granted is what the list grants to each of the principals alone
pub record AreGrantedAlone (whole : List Principal) (list : List Ace) (g : GrantedAlone) : Type 0 where
  pub each : (k bit : ℕ) (named : Decision) → k < length whole → named ≡ slice_index_or g.named.items k named
      → is_granted_alone named g.everyone bit ≡ is_granted_to list (slice_index_or whole k everyone ∷ []) bit
