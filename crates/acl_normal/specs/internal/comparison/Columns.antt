-- The ACEs of two lists that have one right, and the principals that they name (this library's own).
use Rattle.std.specs.Prelude.{◌≡◌, ℕ, ◌<◌, ◌≤◌, Bool, true, false, ◌&&◌, ◌||◌, ◌==◌, if◌then◌else◌, List, [], ◌∷◌, length, map, slice_index_or, ◌⊎◌}
use Rattle.std.specs.List.{AllByRecursion}
use Rattle.acl_eval.specs.Column.{takes_part}
use Rattle.acl_nfs4.specs.Ace.{Ace}
use Rattle.acl_nfs4.specs.Who.{principal_of}
use Rattle.acl_normal.specs.Keys.{principal_eq}
use Rattle.acl_normal.specs.internal.Shown.{aces_in, mask_numbers}
use Rattle.acl_normal.specs.internal.comparison.FirstPlaces.{AreWhoms, is_of, no_ace}
use Rattle.acl_normal.specs.internal.comparison.SetSearch.{principals}
use Rattle.acl_normal.specs.internal.comparison.TwoLists.{TwoLists, all_mentioned, principal_at}
use Rattle.acl_normal.specs.declared.comparison.columns.Columns.{Columns}
use Rattle.acl_normal.specs.declared.comparison.placing.Whom.{Whom}
use Rattle.acl_normal.specs.declared.comparison.placing.Whom.TheVariants.{Everyone, Nobody, One}
use Rattle.acl_perm.specs.Bits.{has_bit}
use Rattle.acl_perm.specs.Principal.{Principal, everyone}
use Rattle.acl_perm.specs.declared.mask.Mask.{Mask}

-- the ACEs of a list that have the right
abbrev pub with_right : ℕ → List Ace → List Ace
with_right bit [] = []
with_right bit (a ∷ list) = if has_bit a.mask bit then a ∷ with_right bit list else with_right bit list

-- whom an ACE names, by new numbers of the principals
abbrev pub renumbered : List ℕ → Whom → Whom
renumbered places Nobody = Nobody
renumbered places (One k) = One (slice_index_or places k 0)
renumbered places Everyone = Everyone

-- whom those ACEs of a list name that have the right, by new numbers of the principals
abbrev pub all_renumbered : List ℕ → ℕ → List Ace → List Whom → List Whom
all_renumbered places bit [] ws = []
all_renumbered places bit (a ∷ list) [] = []
all_renumbered places bit (a ∷ list) (w ∷ ws) = if has_bit a.mask bit
    then renumbered places w ∷ all_renumbered places bit list ws else all_renumbered places bit list ws

-- the number is the one that is named
abbrev pub names_number : Whom → ℕ → Bool
names_number Nobody k = false
names_number (One i) k = k == i
names_number Everyone k = false

-- the mask at a number
abbrev pub mask_at_number : List Mask → ℕ → ℕ
mask_at_number masks k = slice_index_or (mask_numbers masks) k 0

-- some rights are added to those at the number that is named
pub record AddsTo (w : Whom) (more : ℕ) (old new : List Mask) : Type 0 where
  pub count : length new ≡ length old
  pub each : (k bit : ℕ) → k < length old → has_bit (mask_at_number new k) bit
      ≡ (has_bit (mask_at_number old k) bit || (names_number w k && has_bit more bit))

-- a right that is not at a number now was not there before, and no one of the first n ACEs that has it names the number
pub record AddRights (n : ℕ) (list : List Ace) (ws : List Whom) (old new : List Mask) : Type 0 where
  pub count : length new ≡ length old
  pub before : (k bit : ℕ) → k < length old → has_bit (mask_at_number new k) bit ≡ false
      → has_bit (mask_at_number old k) bit ≡ false
  pub each : (k bit i : ℕ) → k < length old → has_bit (mask_at_number new k) bit ≡ false → i < n
      → (names_number (slice_index_or ws i Nobody) k && has_bit (slice_index_or list i no_ace).mask bit) ≡ false

-- each ACE with the right that concerns the principal names everyone
pub record IsUnnamed (list : List Ace) (bit : ℕ) (p : Principal) : Type 0 where
  pub each : AllByRecursion (λ a. has_bit a.mask bit ≡ true
      → is_of a p ≡ (takes_part a && principal_eq (principal_of a) everyone)) list

-- so it is in both lists for the mentioned principal of a number
pub record IsLeftOut (both : TwoLists) (bit k : ℕ) : Type 0 where
  pub first : IsUnnamed both.first bit (principal_at both k)
  pub second : IsUnnamed both.second bit (principal_at both k)

-- by number, all rights of the ACEs that name each mentioned principal
pub record AreRightsByNumber (both : TwoLists) (rights : List Mask) : Type 0 where
  pub count : length rights ≡ length (all_mentioned both)
  pub each : (k bit : ℕ) → k < length rights → has_bit (mask_at_number rights k) bit ≡ false → IsLeftOut both bit k

-- the numbers below n that have the right, rising, and the place of each among them
pub record AreNumbersOf (rights : List Mask) (bit n : ℕ) (numbers places : List ℕ) : Type 0 where
  pub count : length places ≡ length rights
  pub below : (j : ℕ) → j < length numbers → slice_index_or numbers j 0 < n
  pub rising : (i j : ℕ) → i < j → j < length numbers → slice_index_or numbers i 0 < slice_index_or numbers j 0
  pub place : (k : ℕ) → k < n → has_bit (mask_at_number rights k) bit ≡ true
      → (slice_index_or places k 0 < length numbers) × (slice_index_or numbers (slice_index_or places k 0) 0 ≡ k)

-- the columns of a right: the ACEs of both lists that have it, and the mentioned principals that they name, and perhaps
-- others; but all that are left out are unnamed
pub record AreColumnsOf (both : TwoLists) (bit : ℕ) (c : Columns) : Type 0 where
  pub below : (j : ℕ) → j < length c.numbers.items → slice_index_or c.numbers.items j 0 < length (all_mentioned both)
  pub rising : (i j : ℕ) → i < j → j < length c.numbers.items
      → slice_index_or c.numbers.items i 0 < slice_index_or c.numbers.items j 0
  pub whole : principals c.principals.items ≡ map (principal_at both) c.numbers.items
  pub first : aces_in c.first.aces.items ≡ with_right bit both.first
  pub second : aces_in c.second.aces.items ≡ with_right bit both.second
  pub here : AreWhoms (principals c.principals.items) (aces_in c.first.aces.items) c.first.whoms.items
  pub there : AreWhoms (principals c.principals.items) (aces_in c.second.aces.items) c.second.whoms.items
  pub others : (k : ℕ) → k < length (all_mentioned both)
      → ((j : ℕ) × (j < length c.numbers.items) × (slice_index_or c.numbers.items j 0 ≡ k)) ⊎ IsLeftOut both bit k

-- the number at a place, or another one after the last place
pub record IsNumberOr (numbers : List ℕ) (place count number : ℕ) : Type 0 where
  pub inside : place < length numbers → number ≡ slice_index_or numbers place 0
  pub past : length numbers ≤ place → number ≡ count
