-- The search for the first placing that passes a test, and for the first that inverts another.
use Rattle.acl_normal.proofs.Common.{AllByRecursion, Allow, Bool, Deny, List, Placing, SameAlone, ap, arith, cases_lt, differ, false, false≢true, get_or_default, inl, inr, inverts_any, is_selected, is_users, length, no_placing, not, or_cases, refl, slice_index_or, subst, sym, take, true, ℕ, ◌&&◌, ◌+◌, ◌<◌, ◌||◌, ◌∙◌, ◌≡◌, ◌≤◌}
use borrow.Author.Count.{below_more}
use Rattle.std.proofs.lemmas.List.{get_or-take, length-take-le}
use Rattle.acl_normal.proofs.Each.{all_at}
use Rattle.acl_normal.specs.internal.comparison.FirstPlaces.{IsFirstBelow}
use Rattle.acl_normal.specs.internal.comparison.PlaceTables.{IsFirstOf, IsPlaceTable, IsPlacingWithin, selection_of, is_inverting}
use Rattle.acl_normal.specs.declared.principal_class.Class.TheVariants.{Others, Users}
use Rattle.acl_normal.specs.declared.comparison.direction.Direction.{Direction}
use Rattle.acl_normal.specs.declared.comparison.inversions.Selection.{Selection}
use Rattle.acl_normal.specs.declared.comparison.inversions.Side.TheVariants.{Here, There}
use Rattle.acl_perm.specs.Kind.{is_allow}
use Rattle.acl_normal.proofs.comparison.Inverting.{found_false, found_true, outside}

-- a placing of the first part of a list has its place in the whole list too
pub near_is : (rows : List Placing) {near : List Placing} {limit k : ℕ} (d : Placing) → near ≡ take limit rows
    → limit ≤ length rows
    → k < length near → (k < limit) × (slice_index_or near k d ≡ slice_index_or rows k no_placing)
near_is rows {near} {limit} {k} d is within below =
    let lt : k < limit = omega (arith, below, ap length is, length-take-le limit rows within) in (
      lt,
      get_or_default near k d no_placing below ∙ ap (λ v. slice_index_or v k no_placing) is
          ∙ get_or-take limit rows k no_placing lt,
    )

-- after the first part of a list is its limit
pub near_end : (rows : List Placing) {near : List Placing} {limit k : ℕ} → near ≡ take limit rows → limit ≤ length rows
    → length near ≤ k → limit ≤ k
near_end rows {near} {limit} is within past = omega (arith, past, ap length is, length-take-le limit rows within)

-- the search for the first that passes a test ends at one
pub found_below : (test : Placing → Bool) (rows near : List Placing) (limit k : ℕ) (d : Placing) (t : Bool)
    → near ≡ take limit rows → limit ≤ length rows → k < length near → t ≡ test (slice_index_or near k d) → t ≡ true
    → ((j : ℕ) → j < k → test (slice_index_or rows j no_placing) ≡ false) → IsFirstBelow test rows limit k
found_below test rows near limit k d t is within below tells passes before =
    let here = near_is rows d is within below in record {
      within = omega (arith, here.0);
      before = before;
      at = λ _. ap test (sym here.1) ∙ sym tells ∙ passes;
    }

-- the search continues after one that does not pass the test
pub passed_below : (test : Placing → Bool) (rows near : List Placing) (limit k : ℕ) (d : Placing) (t : Bool)
    → near ≡ take limit rows → limit ≤ length rows → k < length near → t ≡ test (slice_index_or near k d) → t ≡ false
    → ((j : ℕ) → j < k → test (slice_index_or rows j no_placing) ≡ false)
    → (j : ℕ) → j < k + 1 → test (slice_index_or rows j no_placing) ≡ false
passed_below test rows near limit k d t is within below tells fails before =
    below_more _ _ before (ap test (sym (near_is rows d is within below).1) ∙ sym tells ∙ fails)

-- the search ends at the limit if none passes the test
pub none_below : (test : Placing → Bool) (rows near : List Placing) (limit k : ℕ) → near ≡ take limit rows
    → limit ≤ length rows → length near ≤ k
    → ((j : ℕ) → j < k → test (slice_index_or rows j no_placing) ≡ false) → IsFirstBelow test rows limit limit
none_below test rows near limit k is within past before = record {
  within = omega arith;
  before = λ j l. before j (omega (arith, l, near_end rows is within past));
  at = λ l. absurd (omega (arith, l));
}

-- how the search for the first that passes a test continues and ends
pub ruleset first_below = (found_below, passed_below, none_below)

-- the first placing of a selection that the tables report is the first of the selection that inverts another
pub first_selected : {q : Selection} {size limit k : ℕ} {rows : List Placing} {forward back fs bs : List ℕ} {t : Bool}
    → k < limit → limit ≤ length rows
    → ((j : ℕ) → j < k → is_selected q (slice_index_or rows j no_placing) ≡ true
    → inverts_any q.direction (slice_index_or rows j no_placing) rows ≡ false)
    → AllByRecursion (SameAlone q.direction) rows → AllByRecursion (IsPlacingWithin size) rows
    → IsPlaceTable q Here size rows forward → IsPlaceTable q There size rows back → fs ≡ forward → bs ≡ back
    → t ≡ is_inverting q (slice_index_or rows k no_placing) fs bs → t ≡ true → IsFirstOf q rows limit k
first_selected {q} {size} {limit} {k} {rows} {forward} {back} {fs} {bs} {t} lt le before alone places f b fe be h e =
    record {
      within = omega arith;
      before = before;
      at = λ _. found_true q size rows (slice_index_or rows k no_placing) fs bs t h e
          (all_at (SameAlone q.direction) rows k no_placing (omega arith) alone) alone
          (all_at (IsPlacingWithin size) rows k no_placing (omega arith) places)
          (subst (λ v. IsPlaceTable q Here size rows v) (sym fe) f)
          (subst (λ v. IsPlaceTable q There size rows v) (sym be) b);
    }

-- a placing of the selection that the code's tables do not report inverts none
pub not_selected : {q : Selection} {size k : ℕ} {rows : List Placing} {forward back fs bs : List ℕ} {t : Bool}
    → k < length rows → AllByRecursion (SameAlone q.direction) rows → AllByRecursion (IsPlacingWithin size) rows
    → IsPlaceTable q Here size rows forward → IsPlaceTable q There size rows back → fs ≡ forward → bs ≡ back
    → t ≡ is_inverting q (slice_index_or rows k no_placing) fs bs → t ≡ false
    → is_selected q (slice_index_or rows k no_placing) ≡ true
    → inverts_any q.direction (slice_index_or rows k no_placing) rows ≡ false
not_selected {q} {size} {k} {rows} {forward} {back} {fs} {bs} {t} lt alone places f b fe be h e =
    found_false q size rows (slice_index_or rows k no_placing) fs bs t h e
    (all_at (SameAlone q.direction) rows k no_placing lt alone) alone
    (all_at (IsPlacingWithin size) rows k no_placing lt places)
    (subst (λ v. IsPlaceTable q Here size rows v) (sym fe) f) (subst (λ v. IsPlaceTable q There size rows v) (sym be) b)

-- the first below a limit, of those that pass a test, that inverts another
record IsFirstAmong (way : Direction) (test : Placing → Bool) (rows : List Placing) (limit first : ℕ) : Type 0 where
  pub within : first ≤ limit
  pub before : (k : ℕ) → k < first → test (slice_index_or rows k no_placing) ≡ true
      → inverts_any way (slice_index_or rows k no_placing) rows ≡ false
  pub at : first < limit → inverts_any way (slice_index_or rows first no_placing) rows ≡ true

-- the first of a selection, below the first of some, is the first of these and the selection
with_selection : {way : Direction} {test : Placing → Bool} {rows : List Placing} {limit most first : ℕ} (q : Selection)
    → q.direction ≡ way → IsFirstAmong way test rows limit most → IsFirstOf q rows most first
    → IsFirstAmong way (λ r. is_selected q r || test r) rows limit first
with_selection {way} {test} {rows} {limit} {most} {first} q own some next = record {
  within = omega (arith, some.within, next.within);
  before = λ k l h. elim (or_cases (is_selected q (slice_index_or rows k no_placing)) _ h) [
    | inl e ↦ subst (λ v. inverts_any v (slice_index_or rows k no_placing) rows ≡ false) own (next.before k l e)
    | inr e ↦ some.before k (omega (arith, l, next.within)) e
  ];
  at = λ l. elim (cases_lt first most) [
    | inl less ↦ subst (λ v. inverts_any v (slice_index_or rows first no_placing) rows ≡ true) own (next.at less)
    | inr past ↦ let e : most ≡ first = omega (arith, past, next.within) in
        subst (λ v. inverts_any way (slice_index_or rows v no_placing) rows ≡ true) e (some.at (omega (arith, l, e)))
  ];
}

-- the first of the four selections, one after the other, is the first of all
pub first_of_four : (way : Direction) (rows : List Placing) (limit a b c d : ℕ) → limit ≤ length rows
    → AllByRecursion (SameAlone way) rows → IsFirstOf (selection_of way Allow Users) rows limit a
    → IsFirstOf (selection_of way Allow Others) rows a b → IsFirstOf (selection_of way Deny Users) rows b c
    → IsFirstOf (selection_of way Deny Others) rows c d → IsFirstBelow (λ r. inverts_any way r rows) rows limit d
first_of_four way rows limit a b c d le alone ha hb hc hd = record {
  within = all.within;
  before = λ k l. go k l (in_selection (slice_index_or rows k no_placing)) refl;
  at = all.at;
}
  where
    in_selection : Placing → Bool
    in_selection r = is_selected (selection_of way Deny Others) r || (is_selected (selection_of way Deny Users) r
        || (is_selected (selection_of way Allow Others) r || (is_selected (selection_of way Allow Users) r || false)))

    start : IsFirstAmong way (λ r. false) rows limit limit
    start = record { within = omega arith; before = λ k l h. absurd (false≢true h); at = λ l. absurd (omega arith) }

    all : IsFirstAmong way in_selection rows limit d
    all = with_selection (selection_of way Deny Others) refl (with_selection (selection_of way Deny Users) refl
        (with_selection (selection_of way Allow Others) refl
        (with_selection (selection_of way Allow Users) refl start ha) hb) hc) hd

    no_kind : (rh rt u : Bool) → ((not rt && not (differ false u)) || ((not rt && not (differ true u))
        || ((rh && not (differ false u)) || ((rh && not (differ true u)) || false)))) ≡ false
        → (rh ≡ false) × (not rt ≡ false)
    no_kind rh rt u h = (grind arith, grind arith)

    go : (k : ℕ) → k < d → (t : Bool) → in_selection (slice_index_or rows k no_placing) ≡ t
        → inverts_any way (slice_index_or rows k no_placing) rows ≡ false
    go k l true e = all.before k l e
    go k l false e =
        let r : Placing = slice_index_or rows k no_placing in
        let none = no_kind (is_allow r.here.kind) (is_allow r.there.kind) (is_users r.class) e in
        outside way r rows (all_at (SameAlone way) rows k no_placing (omega (arith, l, all.within)) alone) none.0 none.1
        alone
