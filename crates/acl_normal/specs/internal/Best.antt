-- The plain way to the normal form, pass by pass (this library's own).
use Rattle.std.specs.Prelude.{◌≡◌, ◌≢◌, ◌++◌, ℕ, Bool, true, false, if◌then◌else◌, List, [], ◌∷◌, is_some, Option, None, Some}
use Rattle.std.specs.List.{AllByRecursion}
use Rattle.std.specs.Ordering.{is_le}
use Rattle.acl_perm.specs.Bits.{all_rights, has_bit}
use Rattle.acl_perm.specs.Principal.{Principal, everyone}
use Rattle.acl_nfs4.specs.Ace.{Ace}
use Rattle.acl_nfs4.specs.Who.{principal_of}
use Rattle.acl_eval.specs.Column.{column, first_kind}
use Rattle.acl_normal.specs.internal.Alike.{is_either}
use Rattle.acl_normal.specs.Keys.{ace_key, compare_keys}
use Rattle.acl_normal.specs.Normal.{is_free, flags_for}
use Rattle.acl_normal.specs.internal.emit.Emissions.{HasOnceColumns}

-- an ACE of the list that has the right and takes part names the principal, or everyone
abbrev pub is_shadowed : Principal → List Ace → ℕ → Bool
is_shadowed p list bit = is_some (first_kind (is_either p everyone) (column list bit))

-- the key of the ACE is free on no right in the list
abbrev pub IsNowhereFree : List Ace → Ace → Type 0
IsNowhereFree list a = (bit : ℕ) → is_free (column list bit) (ace_key a) ≡ false

-- the ACE may come first: it has normal flags, and at least one right and all rights on which its key is free
pub record IsCandidate (list : List Ace) (a : Ace) : Type 0 where
  pub flags : a.flags ≡ flags_for (principal_of a)
  pub mask : a.mask ≢ 0
  pub all : (bit : ℕ) → has_bit a.mask bit ≡ is_free (column list bit) (ace_key a)

-- the key of the first ACE is not greater than that of the second, if the second is free anywhere
abbrev pub IsBelow : List Ace → Ace → Ace → Type 0
IsBelow list a b = (bit : ℕ) → is_free (column list bit) (ace_key b) ≡ true
    → is_le (compare_keys (ace_key a) (ace_key b)) ≡ true

-- none of the ACEs is free in the list
abbrev pub AreNowhereFree : List Ace → List Ace → Type 0
AreNowhereFree list aces = AllByRecursion (IsNowhereFree list) aces

-- the ACE is a candidate, and below all of the others that are free
pub record IsLeastCandidate (list aces : List Ace) (a : Ace) : Type 0 where
  pub candidate : IsCandidate list a
  pub below : AllByRecursion (IsBelow list a) aces

-- of two candidates the one with the lesser key, or the first if both have the same key
abbrev pub lesser : Option Ace → Ace → Ace
lesser None b = b
lesser (Some a) b = if is_le (compare_keys (ace_key a) (ace_key b)) then a else b

-- of some ACEs, the least that is free in the list, or none if none is free
abbrev pub Best : List Ace → List Ace → Option Ace → Type 0
Best list aces None = AreNowhereFree list aces
Best list aces (Some a) = IsLeastCandidate list aces a

-- the best of the ACEs that were seen became the best of these and one more
abbrev pub AddsToBest : List Ace → Ace → Option Ace → Option Ace → Type 0
AddsToBest list next old new = (seen : List Ace) → Best list seen old → Best list (seen ++ next ∷ []) new

-- no column has a principal twice, and only the columns of rights have keys
pub record HasRowColumns (list : List Ace) : Type 0 where
  pub once : HasOnceColumns list
  pub rights : (bit : ℕ) → has_bit all_rights bit ≡ false → column list bit ≡ []
