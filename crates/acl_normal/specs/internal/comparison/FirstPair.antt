-- The first pair of principals at which two lists differ (this library's own).
use Rattle.std.specs.Prelude.{◌≡◌, ℕ, ◌<◌, Bool, true, ◌&&◌, ◌||◌, ◌==◌, nat_lt, if◌then◌else◌, [], ◌∷◌, length}
use Rattle.acl_perm.specs.Overlap.{may_overlap}
use Rattle.acl_normal.specs.internal.comparison.FirstPlaces.{IsLeast, OnAll}
use Rattle.acl_normal.specs.internal.comparison.SetSearch.{AlikeAt}
use Rattle.acl_normal.specs.internal.comparison.TwoLists.{AlikeToOne, AlikeToPairs, TwoLists, all_mentioned, principal_at}
use Rattle.acl_normal.specs.declared.comparison.first_pair.FirstPair.{FirstPair}

-- how many principals the lists mention
abbrev pub mentioned_count : TwoLists → ℕ
mentioned_count both = length (all_mentioned both)

-- on a right, the lists do not differ in the direction for the principal of a number and that of a later one, if both
-- may overlap
abbrev pub AlikeToLater : TwoLists → ℕ → ℕ → ℕ → Type 0
AlikeToLater both at bit k = at < k → may_overlap (principal_at both at) (principal_at both k) ≡ true
    → AlikeAt both.direction both.first both.second (principal_at both at ∷ principal_at both k ∷ []) bit

-- on each right, the lists do not differ in the direction for any mentioned principal alone
abbrev pub AreAlikeAlone : TwoLists → Type 0
AreAlikeAlone both = (k : ℕ) → k < mentioned_count both → OnAll (AlikeToOne both) k

-- what is found is least in a sense: the first principal that is in a pair, and the first later one that makes such a
-- pair with it
pub record AreLeast (both : TwoLists) (IsTheLeast : (ℕ → ℕ → Type 0) → ℕ → Type 0) (f : FirstPair) : Type 0 where
  pub member : IsTheLeast (AlikeToPairs both) f.member
  pub partner : f.member < mentioned_count both → IsTheLeast (AlikeToLater both f.member) f.partner

-- what is found on one right
abbrev pub IsFoundOn : TwoLists → ℕ → FirstPair → Type 0
IsFoundOn both bit = AreLeast both (λ Q. IsLeast (Q bit) (mentioned_count both))

-- what is found on all rights
abbrev pub IsFoundOnAll : TwoLists → FirstPair → Type 0
IsFoundOnAll both = AreLeast both (λ Q. IsLeast (OnAll Q) (mentioned_count both))

-- nothing is found
pub record IsNothing (both : TwoLists) (f : FirstPair) : Type 0 where
  pub member : f.member ≡ mentioned_count both
  pub partner : f.partner ≡ mentioned_count both

-- what is found first comes before what is found second, in the order of the small sets
abbrev pub is_found_before : FirstPair → FirstPair → Bool
is_found_before f g = nat_lt f.member g.member || ((f.member == g.member) && nat_lt f.partner g.partner)

-- the one of two that comes first
abbrev pub earlier_of : FirstPair → FirstPair → FirstPair
earlier_of f g = if is_found_before g f then g else f
