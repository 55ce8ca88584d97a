-- Tables that show at once whether a principal inverts another (this library's own).
use Rattle.std.specs.Prelude.{◌≡◌, ℕ, ◌<◌, ◌≤◌, ◌+◌, Bool, true, false, not, ◌&&◌, ◌||◌, ◌==◌, if◌then◌else◌, nat_lt, List, [], ◌∷◌, max, length, slice_index_or}
use Rattle.acl_normal.specs.internal.comparison.Directions.{differ}
use Rattle.acl_normal.specs.internal.comparison.FirstPlaces.{inverts_any, no_placing}
use Rattle.acl_normal.specs.Classes.{is_users}
use Rattle.acl_perm.specs.Kind.{is_allow}
use Rattle.acl_perm.specs.declared.kind.Kind.{Kind}
use Rattle.acl_normal.specs.declared.principal_class.Class.{Class}
use Rattle.acl_normal.specs.declared.comparison.direction.Direction.{Direction}
use Rattle.acl_normal.specs.declared.comparison.direction.Direction.TheVariants.{Either, Over}
use Rattle.acl_normal.specs.declared.comparison.inversions.Selection.{Selection}
use Rattle.acl_normal.specs.declared.comparison.inversions.Side.{Side}
use Rattle.acl_normal.specs.declared.comparison.inversions.Side.TheVariants.{Here, There}
use Rattle.acl_normal.specs.declared.comparison.placing.Placing.{Placing}

-- both lists have this kind for a principal, if they do not differ for it in a direction: an ALLOW in the first list,
-- a DENY in the second
abbrev pub has_kind : Bool → Placing → Bool
has_kind allowed r = if allowed then is_allow r.here.kind else not (is_allow r.there.kind)

-- the selection of a direction, a kind and a class
abbrev pub selection_of : Direction → Kind → Class → Selection
selection_of direction kind class = record { direction = direction; kind = kind; class = class }

-- a principal is of the other kind, and may overlap with those of the selection
abbrev pub is_opposing : Selection → Placing → Bool
is_opposing selection r = not (is_users selection.class && is_users r.class)
    && has_kind (not (is_allow selection.kind)) r

-- the principals that come before one of the selection in the list of a side, and not in the other list, make a
-- difference in the direction: in either direction on each side; and where only the first list may grant more, an
-- ALLOW comes before a DENY in the first list, and after it in the second
abbrev pub is_wanted : Direction → Bool → Side → Bool
is_wanted Either allows side = true
is_wanted Over true Here = false
is_wanted Over true There = true
is_wanted Over false Here = true
is_wanted Over false There = false

-- the tables of a selection have principals of the side
abbrev pub wants : Selection → Side → Bool
wants selection side = is_wanted selection.direction (is_allow selection.kind) side

-- the place in the list of a side
abbrev pub place_of : Side → Placing → ℕ
place_of Here r = r.here.place
place_of There r = r.there.place

-- the place in the other list
abbrev pub other_place : Side → Placing → ℕ
other_place Here r = r.there.place
other_place There r = r.here.place

-- one more than the greatest place in the other list of the opposing principals before a place in the one list
abbrev pub most_before : Selection → Side → ℕ → List Placing → ℕ
most_before selection side k [] = 0
most_before selection side k (r ∷ placings) =
    max (if is_opposing selection r && nat_lt (place_of side r) k then other_place side r + 1 else 0)
    (most_before selection side k placings)

-- one more than the greatest place in the other list of the opposing principals just before a place in the one list
abbrev pub most_at : Selection → Side → ℕ → List Placing → ℕ
most_at selection side k [] = 0
most_at selection side k (r ∷ placings) =
    max (if is_opposing selection r && (place_of side r + 1 == k) then other_place side r + 1 else 0)
    (most_at selection side k placings)

-- places within lists of this length
pub record IsPlacingWithin (size : ℕ) (r : Placing) : Type 0 where
  pub here : r.here.place ≤ size
  pub there : r.there.place ≤ size

-- the table has, at each place, the number of `most_before`, or zeros where the side is not wanted
pub record IsPlaceTable (selection : Selection) (side : Side) (size : ℕ) (placings : List Placing) (table : List ℕ)
    : Type 0 where
  pub count : length table ≡ size + 2
  pub each : (k : ℕ) → k < size + 2
      → slice_index_or table k 0 ≡ (if wants selection side then most_before selection side k placings else 0)

-- the second list denies the right to a principal that may overlap with other principals of a class
abbrev pub is_denied_beside : Class → Placing → Bool
is_denied_beside class r = not (is_users class && is_users r.class) && not (is_allow r.there.kind)

-- one more than the greatest place in the first list of those principals before a place in the second list
abbrev pub most_denied : Class → ℕ → List Placing → ℕ
most_denied class k [] = 0
most_denied class k (r ∷ placings) =
    max (if is_denied_beside class r && nat_lt r.there.place k then r.here.place + 1 else 0)
    (most_denied class k placings)

-- the table has, at each place, the number of `most_denied`
pub record IsDeniedTable (class : Class) (size : ℕ) (placings : List Placing) (table : List ℕ) : Type 0 where
  pub count : length table ≡ size + 2
  pub each : (k : ℕ) → k < size + 2 → slice_index_or table k 0 ≡ most_denied class k placings

-- the table has, at each place, the number of `most_at`
pub record IsScattered (selection : Selection) (side : Side) (size : ℕ) (placings : List Placing) (table : List ℕ) :
    Type 0 where
  pub count : length table ≡ size + 2
  pub each : (k : ℕ) → k < size + 2 → slice_index_or table k 0 ≡ most_at selection side k placings

-- the number after a principal's place is raised, if the principal is an opposing one
pub record Raises (selection : Selection) (side : Side) (r : Placing) (old new : List ℕ) : Type 0 where
  pub count : length new ≡ length old
  pub each : (k : ℕ) → k < length old → slice_index_or new k 0
      ≡ max (slice_index_or old k 0)
      (if is_opposing selection r && (place_of side r + 1 == k) then other_place side r + 1 else 0)

-- a principal is of the selection
abbrev pub is_selected : Selection → Placing → Bool
is_selected selection r = has_kind (is_allow selection.kind) r
    && not (differ (is_users selection.class) (is_users r.class))

-- a principal is of a selection, and inverts another principal by the tables of the selection
abbrev pub is_inverting : Selection → Placing → List ℕ → List ℕ → Bool
is_inverting selection r forward back = is_selected selection r
    && (nat_lt r.there.place (slice_index_or forward r.here.place 0)
    || nat_lt r.here.place (slice_index_or back r.there.place 0))

-- the first of a selection, below a limit, that inverts another
pub record IsFirstOf (selection : Selection) (placings : List Placing) (limit first : ℕ) : Type 0 where
  pub within : first ≤ limit
  pub before : (k : ℕ) → k < first → is_selected selection (slice_index_or placings k no_placing) ≡ true
      → inverts_any selection.direction (slice_index_or placings k no_placing) placings ≡ false
  pub at : first < limit → inverts_any selection.direction (slice_index_or placings first no_placing) placings ≡ true
