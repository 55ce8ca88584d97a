-- The search for the first small set of principals at which two lists differ in a direction (this library's own).
use Rattle.std.specs.Prelude.{◌≡◌, ℕ, ◌<◌, ◌^◌, Bool, true, false, ◌&&◌, IsTrue, List, [], ◌∷◌, Option, Some, None, map, ◌⊎◌}
use Rattle.std.specs.List.{AllByRecursion}
use Rattle.std.specs.declared.cmp.Ordering.TheVariants.{Less}
use Rattle.acl_perm.specs.declared.principal.Principal.{Principal as PrincipalRef}
use Rattle.acl_eval.specs.Column.{column, takes_part, verdict}
use Rattle.acl_eval.specs.Grant.{is_allow}
use Rattle.acl_nfs4.specs.Ace.{Ace}
use Rattle.acl_nfs4.specs.Who.{principal_of}
use Rattle.acl_normal.specs.SmallSituations.{is_among}
use Rattle.acl_normal.specs.internal.comparison.Directions.{differ_in}
use Rattle.acl_normal.specs.declared.comparison.direction.Direction.{Direction}
use Rattle.acl_perm.specs.Bits.{all_rights, has_bit}
use Rattle.acl_perm.specs.Order.{principal_cmp}
use Rattle.acl_perm.specs.Principal.{Principal, everyone, principal}

-- the principals of the code as plain data
abbrev pub principals : List PrincipalRef → List Principal
principals names = map principal names

-- each is below those after it
abbrev pub IsRisingSet : List Principal → Type 0
IsRisingSet [] = Unit {0}
IsRisingSet (p ∷ rest) = AllByRecursion (λ q. principal_cmp p q ≡ Less) rest × IsRisingSet rest

-- what the list grants where exactly these principals match, and everyone
abbrev pub is_granted_to : List Ace → List Principal → ℕ → Bool
is_granted_to list set bit = is_allow (verdict (λ r. is_among r (everyone ∷ set)) (column list bit))

-- on a right, the answers of the lists do not differ in the direction there
abbrev pub AlikeAt : Direction → List Ace → List Ace → List Principal → ℕ → Type 0
AlikeAt way list other set bit = differ_in way (is_granted_to list set bit) (is_granted_to other set bit) ≡ false

-- on each right, the answers of the lists do not differ in the direction there
abbrev pub GrantAlikeTo : Direction → List Ace → List Ace → List Principal → Type 0
GrantAlikeTo way list other set = (bit : ℕ) → IsTrue (has_bit all_rights bit) → AlikeAt way list other set bit

-- the first of the sets at which the lists differ in the direction, if there is one
abbrev pub FindsFirst : Direction → List Ace → List Ace → List (List Principal) → Option (List Principal) → Type 0
FindsFirst way list other [] found = found ≡ None
FindsFirst way list other (set ∷ sets) found =
    (GrantAlikeTo way list other set × FindsFirst way list other sets found)
    ⊎ ((GrantAlikeTo way list other set → ⊥) × (found ≡ Some set))

-- what `FindsFirst` says, as a record, which stays one fact where the sets are known and `FindsFirst` unfolds into its
-- cases
pub record FindsSet (way : Direction) (list other : List Ace) (sets : List (List Principal))
    (found : Option (List Principal)) : Type 0 where
  pub first : FindsFirst way list other sets found

-- the rights of an ACE that takes part, if its principal is of the set or everyone
pub record HasBitsOf (a : Ace) (set : List Principal) (mask : ℕ) : Type 0 where
  pub bits : (bit : ℕ) → has_bit mask bit
      ≡ ((has_bit a.mask bit && takes_part a) && is_among (principal_of a) (everyone ∷ set))

-- the rights that the list grants where exactly these principals match, and everyone
pub record IsGrantedTo (list : List Ace) (set : List Principal) (mask : ℕ) : Type 0 where
  pub bits : (bit : ℕ) → has_bit mask bit ≡ is_granted_to list set bit

-- the rights on which the lists differ in the direction there
pub record AreDiffering (way : Direction) (list other : List Ace) (set : List Principal) (mask : ℕ) : Type 0 where
  pub bits : (bit : ℕ) → has_bit mask bit ≡ differ_in way (is_granted_to list set bit) (is_granted_to other set bit)

-- the lowest right on which the lists differ in the direction there, and whether the first grants it
pub record IsLowestDifference (way : Direction) (list other : List Ace) (set : List Principal) (mask : ℕ)
    (first_grants : Bool) : Type 0 where
  pub bit : ℕ
  pub one_bit : mask ≡ 2 ^ bit
  pub of_rights : IsTrue (has_bit all_rights bit)
  pub differs : differ_in way (is_granted_to list set bit) (is_granted_to other set bit) ≡ true
  pub lowest : (b : ℕ) → b < bit → IsTrue (has_bit all_rights b) → AlikeAt way list other set b
  pub first : first_grants ≡ is_granted_to list set bit

-- no ACE of the list has a right past these
pub record AreRightsOf (list : List Ace) (mask : ℕ) : Type 0 where
  pub unused : (bit : ℕ) → has_bit mask bit ≡ false → column list bit ≡ []
