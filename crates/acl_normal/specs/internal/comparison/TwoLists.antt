-- Two lists that are compared, and questions about them, right by right (this library's own).
use Rattle.std.specs.Prelude.{◌≡◌, ℕ, ◌+◌, List, Option, drop, length, slice_index_or}
use Rattle.acl_eval.specs.Column.{column}
use Rattle.acl_nfs4.specs.Ace.{Ace}
use Rattle.acl_perm.specs.Principal.{Principal, everyone}
use Rattle.acl_perm.specs.Situation.{Situation}
use Rattle.acl_normal.specs.Difference.{IsComparison, situation_of}
use Rattle.acl_normal.specs.Excess.{IsExcess}
use Rattle.acl_normal.specs.internal.Tidy.{HasNames}
use Rattle.acl_normal.specs.SmallSets.{mentioned, small_sets, strange_length}
use Rattle.acl_normal.specs.SmallSituations.{small_situation}
use Rattle.acl_normal.specs.internal.comparison.FirstPlaces.{AlikeAlone, AlikeWith, AlikeWithAll, IsLeast, OnAll}
use Rattle.acl_normal.specs.internal.comparison.SetSearch.{FindsSet, GrantAlikeTo, IsLowestDifference}
use Rattle.acl_normal.specs.declared.comparison.Difference.{Difference}
use Rattle.acl_normal.specs.declared.comparison.direction.Direction.{Direction}
use Rattle.acl_normal.specs.declared.comparison.direction.Direction.TheVariants.{Either, Over}

-- the two lists, and the direction in which they are compared
pub record TwoLists : Type 0 where
  pub direction : Direction
  pub first : List Ace
  pub second : List Ace

-- the value of two lists that are compared in a direction
abbrev pub two_lists : Direction → List Ace → List Ace → TwoLists
two_lists direction first second = record { direction = direction; first = first; second = second }

-- the principals that they mention, in order
abbrev pub all_mentioned : TwoLists → List Principal
all_mentioned both = mentioned both.first both.second

-- the mentioned principal of a number
abbrev pub principal_at : TwoLists → ℕ → Principal
principal_at both k = slice_index_or (all_mentioned both) k everyone

-- the mentioned principals after that of a number
abbrev pub later_than : TwoLists → ℕ → List Principal
later_than both k = drop (k + 1) (all_mentioned both)

-- of the ACEs that take part, both lists have the same ones with the right, in the same order
abbrev pub HaveSameColumn : TwoLists → ℕ → Type 0
HaveSameColumn both bit = column both.first bit ≡ column both.second bit

-- each who of both lists that is a name is one that a situation may have
pub record AreNamed (both : TwoLists) : Type 0 where
  pub first : HasNames both.first
  pub second : HasNames both.second

-- the lists do not differ in the direction where exactly these principals match, and everyone
abbrev pub AreAlikeTo : TwoLists → List Principal → Type 0
AreAlikeTo both set = GrantAlikeTo both.direction both.first both.second set

-- on a right, the lists do not differ in the direction for the principal of a number alone
abbrev pub AlikeToOne : TwoLists → ℕ → ℕ → Type 0
AlikeToOne both = AlikeAlone both.direction both.first both.second (all_mentioned both)

-- on a right, the lists do not differ in the direction for the principal of a number and any other that it may overlap
abbrev pub AlikeToPairs : TwoLists → ℕ → ℕ → Type 0
AlikeToPairs both = AlikeWithAll both.direction both.first both.second (all_mentioned both)

-- on a right, the lists do not differ in the direction for the principal of a number and one of those after it that it
-- may overlap
abbrev pub AlikeToPair : TwoLists → ℕ → ℕ → ℕ → Type 0
AlikeToPair both at = AlikeWith both.direction both.first both.second (principal_at both at) (later_than both at)

-- the number of the first principal for whom alone the lists differ in the direction; if there is none, the number of
-- principals
abbrev pub IsFirstSingle : TwoLists → ℕ → Type 0
IsFirstSingle both least = IsLeast (OnAll (AlikeToOne both)) (length (all_mentioned both)) least

-- the number of the first principal that is one of a pair for which the lists differ in the direction; if there is
-- none, the number of principals
abbrev pub IsFirstMember : TwoLists → ℕ → Type 0
IsFirstMember both least = IsLeast (OnAll (AlikeToPairs both)) (length (all_mentioned both)) least

-- among the principals after one, the number of the first with whom it is a pair for which the lists differ in the
-- direction; if there is none, the number of these principals
abbrev pub IsFirstPartner : TwoLists → ℕ → ℕ → Type 0
IsFirstPartner both at least = IsLeast (OnAll (AlikeToPair both at)) (length (later_than both at)) least

-- what is found is the first small set at which the lists differ in the direction, if there is one
abbrev pub FindSet : TwoLists → Option (List Principal) → Type 0
FindSet both found = FindsSet both.direction both.first both.second (small_sets (all_mentioned both)) found

-- the result of the search in a direction: the comparison of the lists, or the excess of the first over the second
abbrev pub IsFoundIn : Direction → List Ace → List Ace → Option Difference → Type 0
IsFoundIn Either list other found = IsComparison list other found
IsFoundIn Over list other found = IsExcess list other found

-- the result of the search
abbrev pub IsSearched : TwoLists → Option Difference → Type 0
IsSearched both found = IsFoundIn both.direction both.first both.second found

-- the small situation of a set of the mentioned principals
abbrev pub situation_at : TwoLists → List Principal → Situation
situation_at both set = small_situation (strange_length both.first both.second) set

-- a difference shows the small situation of a set
abbrev pub ShowsSituation : TwoLists → List Principal → Difference → Type 0
ShowsSituation both set d = situation_of d ≡ situation_at both set

-- a difference names the lowest right on which the lists differ in the direction at a set, and says whether the first
-- list grants it
abbrev pub DifferLowestOn : TwoLists → List Principal → Difference → Type 0
DifferLowestOn both set d =
    IsLowestDifference both.direction both.first both.second set d.bit.bits d.first_grants
