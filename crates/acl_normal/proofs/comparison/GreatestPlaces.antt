-- The greatest places of the placings that count, and whether one is over a number.
use Rattle.acl_normal.proofs.Common.{Allow, Bool, List, Placing, [], ap, arith, cond, false, le-ltb, max, nat_lt, ne_eqb, not, refl, ℕ, ◌&&◌, ◌++◌, ◌+◌, ◌==◌, ◌||◌, ◌∙◌, ◌∷◌, ◌≡◌}
use Rattle.std.proofs.lemmas.Bool.Decides.{nat_tests}
use Rattle.acl_normal.specs.internal.comparison.PlaceTables.{is_denied_beside, is_opposing, most_at, most_before, most_denied, other_place, place_of, selection_of}
use Rattle.acl_normal.specs.declared.comparison.inversions.Selection.{Selection}
use Rattle.acl_normal.specs.declared.comparison.inversions.Side.{Side}
use Rattle.acl_normal.specs.declared.comparison.inversions.Side.TheVariants.{There}
use Rattle.acl_normal.specs.declared.comparison.direction.Direction.TheVariants.{Over}
use Rattle.acl_normal.specs.declared.principal_class.Class.{Class}

-- the greatest of two parts is the greater of theirs
pub most_at-append : (q : Selection) (w : Side) (k : ℕ) (xs ys : List Placing)
    → most_at q w k (xs ++ ys) ≡ max (most_at q w k xs) (most_at q w k ys)
most_at-append q w k [] ys = omega arith
most_at-append q w k (r ∷ xs) ys = let ih = most_at-append q w k xs ys in omega arith

-- no placing is just before place 0
pub at_zero : (q : Selection) (w : Side) (rows : List Placing) → most_at q w 0 rows ≡ 0
at_zero q w [] = refl
at_zero q w (r ∷ rows) =
    grind (arith, at_zero q w rows, ne_eqb (place_of w r + 1) 0 (λ e. absurd (omega arith)))

-- no placing is before place 0
pub before_zero : (q : Selection) (w : Side) (rows : List Placing) → most_before q w 0 rows ≡ 0
before_zero q w [] = refl
before_zero q w (r ∷ rows) = grind (arith, before_zero q w rows, le-ltb (place_of w r) 0 (omega arith))

-- what a placing adds one place on is the greater of what it adds there and what it adds before
one_more : (t : Bool) (k j v : ℕ)
    → cond (t && nat_lt j (k + 1)) v 0 ≡ max (cond (t && (j + 1 == k + 1)) v 0) (cond (t && nat_lt j k) v 0)
one_more t k j v = grind (arith, nat_tests)

-- the greatest before the next place is the greater of the greatest at that place and that before it
pub before_more : (q : Selection) (w : Side) (k : ℕ) (rows : List Placing)
    → most_before q w (k + 1) rows ≡ max (most_at q w (k + 1) rows) (most_before q w k rows)
before_more q w k [] = refl
before_more q w k (r ∷ rows) =
    let head = one_more (is_opposing q r) k (place_of w r) (other_place w r + 1) in
    let ih = before_more q w k rows in
    omega arith

-- some placing counts, is before k in its list, and isn't before v in the other list
abbrev pub any_over : Selection → Side → ℕ → ℕ → List Placing → Bool
any_over q w k v [] = false
any_over q w k v (r ∷ rows) =
    (is_opposing q r && (nat_lt (place_of w r) k && not (nat_lt (other_place w r) v))) || any_over q w k v rows

-- the greatest is over a number if and only if the first placing is, or that of the others is
over_head : (t l : Bool) (v x m : ℕ)
    → nat_lt v (max (cond (t && l) (x + 1) 0) m) ≡ ((t && (l && not (nat_lt x v))) || nat_lt v m)
over_head t l v x m = grind (arith, nat_tests)

-- the greatest is over a number if and only if that of some placing is
pub over_is : (q : Selection) (w : Side) (k v : ℕ) (rows : List Placing)
    → nat_lt v (most_before q w k rows) ≡ any_over q w k v rows
over_is q w k v [] = le-ltb v 0 (omega arith)
over_is q w k v (r ∷ rows) =
    over_head (is_opposing q r) (nat_lt (place_of w r) k) v (other_place w r) (most_before q w k rows)
    ∙ ap (λ t. (is_opposing q r && (nat_lt (place_of w r) k && not (nat_lt (other_place w r) v))) || t)
    (over_is q w k v rows)

-- ---- the principals that the second list denies

-- some principal that the second list denies, and that may overlap with others of a class, is before k in the second
-- list, and is not before v in the first list
abbrev pub any_denied : Class → ℕ → ℕ → List Placing → Bool
any_denied class k v [] = false
any_denied class k v (r ∷ rows) =
    (is_denied_beside class r && (nat_lt r.there.place k && not (nat_lt r.here.place v))) || any_denied class k v rows

-- the greatest is over a number if and only if that of some principal is
pub denied_over : (class : Class) (k v : ℕ) (rows : List Placing)
    → nat_lt v (most_denied class k rows) ≡ any_denied class k v rows
denied_over class k v [] = le-ltb v 0 (omega arith)
denied_over class k v (r ∷ rows) =
    over_head (is_denied_beside class r) (nat_lt r.there.place k) v r.here.place (most_denied class k rows)
    ∙ ap (λ t. (is_denied_beside class r && (nat_lt r.there.place k && not (nat_lt r.here.place v))) || t)
    (denied_over class k v rows)

-- the greatest is that of the principals that a selection of ALLOWs opposes
pub denied_is : (class : Class) (k : ℕ) (rows : List Placing)
    → most_before (selection_of Over Allow class) There k rows ≡ most_denied class k rows
denied_is class k [] = refl
denied_is class k (r ∷ rows) =
    ap (max (cond (is_denied_beside class r && nat_lt r.there.place k) (r.here.place + 1) 0)) (denied_is class k rows)
