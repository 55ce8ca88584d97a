-- Tables that show which placings invert another.
use Rattle.acl_normal.proofs.Common.{AllByRecursion, Bool, List, Placing, SameAlone, [], and_parts, ap, arith, cond, differ, false, inverts, inverts_any, is_selected, is_users, le-ltb, nat_lt, not, refl, slice_index_or, sym, true, ℕ, ◌&&◌, ◌||◌, ◌∙◌, ◌∷◌, ◌≡◌}
use Rattle.acl_normal.specs.internal.comparison.Directions.{differ_in}
use Rattle.acl_normal.specs.internal.comparison.FirstPlaces.{earlier_allows}
use Rattle.acl_normal.specs.internal.comparison.PlaceTables.{IsPlaceTable, IsPlacingWithin, has_kind, is_opposing, is_inverting, is_wanted, most_before, wants}
use Rattle.acl_normal.specs.declared.principal_class.Class.{Class}
use Rattle.acl_normal.specs.declared.comparison.direction.Direction.{Direction}
use Rattle.acl_normal.specs.declared.comparison.direction.Direction.TheVariants.{Either, Over}
use Rattle.acl_normal.specs.declared.comparison.inversions.Selection.{Selection}
use Rattle.acl_normal.specs.declared.comparison.inversions.Side.TheVariants.{Here, There}
use Rattle.acl_perm.specs.Kind.{is_allow}
use Rattle.acl_normal.proofs.comparison.GreatestPlaces.{any_over, over_is}

-- if two principals are each answered alike, one is of a kind in both lists, and the orders of both are known, then
-- they differ together if and only if the other is of the other kind and the orders differ as the direction wants
crosses : (way : Direction) (k c l m rh rt sh st : Bool) → differ_in way rh rt ≡ false → differ_in way sh st ≡ false
    → cond k rh (not rt) ≡ true
    → (c && differ_in way (cond l sh rh) (cond m st rt))
    ≡ ((is_wanted way k Here && ((c && cond (not k) sh (not st)) && (l && not m)))
    || (is_wanted way k There && ((c && cond (not k) sh (not st)) && (m && not l))))
crosses Either k c l m rh rt sh st h i e = grind arith
crosses Over true c l m rh rt sh st h i e = grind arith
crosses Over false c l m rh rt sh st h i e = grind arith

-- what one and the others add on two sides, side by side
by_side : (v w x y p q : Bool)
    → (((v && x) || (w && y)) || ((v && p) || (w && q))) ≡ ((v && (x || p)) || (w && (y || q)))
by_side v w x y p q = grind arith

-- classes that don't differ are the same
same_class : (k l : Class) → not (differ (is_users k) (is_users l)) ≡ true → is_users k ≡ is_users l
same_class k l h = grind arith

-- a placing of a selection inverts another if and only if one is over its place, on a side that the selection wants
inverts_is : (q : Selection) (r : Placing) (rows : List Placing) → is_selected q r ≡ true → SameAlone q.direction r
    → AllByRecursion (SameAlone q.direction) rows
    → inverts_any q.direction r rows ≡ ((wants q Here && any_over q Here r.here.place r.there.place rows)
    || (wants q There && any_over q There r.there.place r.here.place rows))
inverts_is q r [] h u all = neither (wants q Here) (wants q There)
  where
    neither : (v w : Bool) → false ≡ ((v && false) || (w && false))
    neither v w = grind arith
inverts_is q r (s ∷ rows) h u all =
    let parts = and_parts (has_kind (is_allow q.kind) r) (not (differ (is_users q.class) (is_users r.class))) h in
    let one : inverts q.direction r s ≡ ((wants q Here && (is_opposing q s && (nat_lt s.here.place r.here.place
    && not (nat_lt s.there.place r.there.place)))) || (wants q There && (is_opposing q s
    && (nat_lt s.there.place r.there.place && not (nat_lt s.here.place r.here.place))))) =
    ap (λ t. not (t && is_users s.class)
    && differ_in q.direction (earlier_allows r.here s.here) (earlier_allows r.there s.there))
    (sym (same_class q.class r.class parts.1))
    ∙ crosses q.direction (is_allow q.kind) (not (is_users q.class && is_users s.class))
    (nat_lt s.here.place r.here.place) (nat_lt s.there.place r.there.place) (is_allow r.here.kind)
    (is_allow r.there.kind) (is_allow s.here.kind) (is_allow s.there.kind) u all.0 parts.0 in
    ap (λ t. t || inverts_any q.direction r rows) one
    ∙ ap (λ t. ((wants q Here && (is_opposing q s && (nat_lt s.here.place r.here.place
    && not (nat_lt s.there.place r.there.place)))) || (wants q There && (is_opposing q s
    && (nat_lt s.there.place r.there.place && not (nat_lt s.here.place r.here.place))))) || t)
    (inverts_is q r rows h u all.1)
    ∙ by_side (wants q Here) (wants q There) _ _ (any_over q Here r.here.place r.there.place rows)
    (any_over q There r.there.place r.here.place rows)

-- a placing that is of no selection inverts none
pub outside : (way : Direction) (r : Placing) (rows : List Placing) → SameAlone way r → has_kind true r ≡ false
    → has_kind false r ≡ false → AllByRecursion (SameAlone way) rows → inverts_any way r rows ≡ false
outside way r [] u h i all = refl
outside way r (s ∷ rows) u h i all =
    rw (outside way r rows u h i all.1) (none way (not (is_users r.class && is_users s.class))
    (nat_lt s.here.place r.here.place) (nat_lt s.there.place r.there.place) (is_allow r.here.kind)
    (is_allow r.there.kind) (is_allow s.here.kind) (is_allow s.there.kind) u all.0 h i)
  where
    none : (way : Direction) (c l m rh rt sh st : Bool) → differ_in way rh rt ≡ false → differ_in way sh st ≡ false
        → rh ≡ false → not rt ≡ false → ((c && differ_in way (cond l sh rh) (cond m st rt)) || false) ≡ false
    none Either c l m rh rt sh st u v h i = grind arith
    none Over c l m rh rt sh st u v h i = grind arith

-- a number is below another that counts if and only if this counts and the number is below it
counted_below : (t : Bool) (v x : ℕ) → nat_lt v (cond t x 0) ≡ (t && nat_lt v x)
counted_below true v x = refl
counted_below false v x = le-ltb v 0 (omega arith)

-- a placing of a selection inverts another if and only if one of the selection's two tables is over its place
by_selection : (q : Selection) (size : ℕ) (rows : List Placing) (r : Placing) (forward back : List ℕ)
    → is_selected q r ≡ true
    → SameAlone q.direction r → AllByRecursion (SameAlone q.direction) rows → IsPlacingWithin size r
    → IsPlaceTable q Here size rows forward → IsPlaceTable q There size rows back
    → inverts_any q.direction r rows ≡ (nat_lt r.there.place (slice_index_or forward r.here.place 0)
    || nat_lt r.here.place (slice_index_or back r.there.place 0))
by_selection q size rows r forward back k u all p f b =
    let here_in = p.here in
    let there_in = p.there in
    inverts_is q r rows k u all
    ∙ rw (
      f.each r.here.place (omega arith),
      b.each r.there.place (omega arith),
      counted_below (wants q Here) r.there.place (most_before q Here r.here.place rows),
      counted_below (wants q There) r.here.place (most_before q There r.there.place rows),
      over_is q Here r.here.place r.there.place rows,
      over_is q There r.there.place r.here.place rows,
    ) refl

-- a placing that the tables report inverts another
pub found_true : (q : Selection) (size : ℕ) (rows : List Placing) (r : Placing) (forward back : List ℕ) (t : Bool)
    → t ≡ is_inverting q r forward back → t ≡ true → SameAlone q.direction r
    → AllByRecursion (SameAlone q.direction) rows → IsPlacingWithin size r → IsPlaceTable q Here size rows forward
    → IsPlaceTable q There size rows back → inverts_any q.direction r rows ≡ true
found_true q size rows r forward back t h e u all p f b =
    let parts = and_parts (is_selected q r)
    (nat_lt r.there.place (slice_index_or forward r.here.place 0) || nat_lt r.here.place
    (slice_index_or back r.there.place 0)) (sym h ∙ e) in
    by_selection q size rows r forward back parts.0 u all p f b ∙ parts.1

-- a placing of the selection that the tables do not report inverts none
pub found_false : (q : Selection) (size : ℕ) (rows : List Placing) (r : Placing) (forward back : List ℕ) (t : Bool)
    → t ≡ is_inverting q r forward back → t ≡ false → SameAlone q.direction r
    → AllByRecursion (SameAlone q.direction) rows → IsPlacingWithin size r → IsPlaceTable q Here size rows forward
    → IsPlaceTable q There size rows back → is_selected q r ≡ true → inverts_any q.direction r rows ≡ false
found_false q size rows r forward back t h e u all p f b k =
    by_selection q size rows r forward back k u all p f b
    ∙ sym (ap (λ v. v && (nat_lt r.there.place (slice_index_or forward r.here.place 0) || nat_lt r.here.place
    (slice_index_or back r.there.place 0))) k)
    ∙ sym h ∙ e
