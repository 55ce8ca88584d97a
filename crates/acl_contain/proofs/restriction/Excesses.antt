-- Which ALLOWs grant somebody what a bound denies, by the first ACEs that concern each principal.
use Rattle.acl_normal.proofs.Common.{Ace, AllByRecursion, AllZip, Allow, Bool, Column, Deny, HasName, IsPlacing, Kind, List, Principal, [], and_from, and_parts, ap, arith, column, cond, everyone, false, false_from_ne_true, false≢true, first_place, inl, inr, is_allow, is_among, is_either_or_everyone, is_granted_to, is_user, is_users, length, matches, may_overlap, nat_lt, no_ace, no_bit, not, or_cases, or_left, or_parts, or_right, le-ltb, principal_eq, unwrap_or, principal_of, refl, slice_index_or, subst, suc, sym, true, zero, ℕ, ⊎_elim, ◌&&◌, ◌||◌, ◌∙◌, ◌∷◌, ◌≡◌, ◌≤◌, ◌⊎◌}
use Rattle.acl_normal.proofs.Exports.{any_denied, below_one, both_users, not_both_users, pair_granted}
use Rattle.std.proofs.lemmas.Bool.{ltb-false}
use Rattle.acl_normal.proofs.unique.FirstKind.{Decider, clique_of, first_kind_same}
use Rattle.acl_normal.proofs.unique.Names.{or_everyone_first, overlaps_itself, principal_eq_itself, principal_eq_same}
use Rattle.acl_normal.proofs.unique.Realised.{everyone_moved}
use Rattle.acl_normal.specs.declared.comparison.placing.Placing.{Placing}
use Rattle.acl_normal.specs.internal.comparison.PlaceTables.{is_denied_beside}
use Rattle.acl_contain.proofs.restriction.Turns.{pair_at_most, stays_at_most, turn, turn_by}
use Rattle.acl_contain.specs.internal.Limits.{denials}
use Rattle.acl_contain.specs.internal.Restriction.{Stays, is_denied_before, is_hit}

-- ---- the DENYs before a place

-- if a test passes a principal and everyone, and hits no DENY before a place, the first DENY of the principal is not
-- before the place
first_not_before : (test : Principal → Bool) (list : List Ace) (p : Principal) (bit place : ℕ) → place ≤ length list
    → test p ≡ true → test everyone ≡ true → is_denied_before test bit list place ≡ false
    → place ≤ first_place (p ∷ []) bit (denials list)
first_not_before test [] p bit place l own all none = l
first_not_before test (a ∷ list) p bit zero l own all none = omega arith
first_not_before test (a ∷ list) p bit (suc place) l own all none =
    by a.kind refl (first_not_before test list p bit place (omega (arith, l)) own all)
  where
    Rest : Type 0
    Rest = is_denied_before test bit list place ≡ false → place ≤ first_place (p ∷ []) bit (denials list)

    by : (k : Kind) → a.kind ≡ k → Rest → suc place ≤ first_place (p ∷ []) bit (denials (a ∷ list))
    by Allow kind rest = grind (arith, kind, none, rest, no_bit bit)
    by Deny kind rest = grind (arith, kind, none, rest, own, all, principal_eq_same)

-- if the first DENYs of two principals are not before a place, no DENY before it is of one of them or of everyone
pair_not_before : (list : List Ace) (p q : Principal) (bit place : ℕ)
    → place ≤ first_place (p ∷ []) bit (denials list) → place ≤ first_place (q ∷ []) bit (denials list)
    → is_denied_before (is_either_or_everyone p q) bit list place ≡ false
pair_not_before [] p q bit place first second = refl
pair_not_before (a ∷ list) p q bit zero first second = refl
pair_not_before (a ∷ list) p q bit (suc place) first second =
    by a.kind refl (pair_not_before list p q bit place)
  where
    Rest : Type 0
    Rest = place ≤ first_place (p ∷ []) bit (denials list) → place ≤ first_place (q ∷ []) bit (denials list)
        → is_denied_before (is_either_or_everyone p q) bit list place ≡ false

    by : (k : Kind) → a.kind ≡ k → Rest
        → is_denied_before (is_either_or_everyone p q) bit (a ∷ list) (suc place) ≡ false
    by Allow kind rest = grind (arith, kind, rest, no_bit bit, first, second)
    by Deny kind rest = grind (arith, kind, rest, first, second)

-- ---- the placings of the principals

-- an ALLOW at a place, of the principal of a placing, grants somebody what the bound denies
abbrev pub is_excess : List Placing → Placing → ℕ → Bool
is_excess rows r place = not (nat_lt r.here.place place)
    && (not (is_allow r.there.kind) || any_denied r.class r.there.place place rows)

-- a placing is of a principal that the bound denies first, and the list does not deny before a place
abbrev Counts : Placing → ℕ → Placing → Bool
Counts r place s = is_denied_beside r.class s && (nat_lt s.there.place r.there.place && not (nat_lt s.here.place place))

-- if no placing counts, that of one of the principals does not
one_fails : (list bound : List Ace) (bit : ℕ) (r : Placing) (place : ℕ) (ps : List Principal) (rows : List Placing)
    (q : Principal) → AllZip (IsPlacing list bound bit) ps rows
    → any_denied r.class r.there.place place rows ≡ false → is_among q ps ≡ true
    → (s : Placing) × IsPlacing list bound bit q s × (Counts r place s ≡ false)
one_fails list bound bit r place [] _ q z none among = cc
one_fails list bound bit r place (p ∷ ps) (s ∷ rows) q z none among =
    let parts = or_parts (Counts r place s) (any_denied r.class r.there.place place rows) none in
    ⊎_elim (λ here. (s, subst (λ v. IsPlacing list bound bit v s) (sym (principal_eq_same q p here)) z.0, parts.0))
    (λ later. one_fails list bound bit r place ps rows q z.1 parts.1 later)
    (or_cases (principal_eq q p) (is_among q ps) among)
one_fails list bound bit r place (p ∷ ps) [] q z none among = absurd z

-- if some placing counts, it is that of one of the principals
one_counts : (list bound : List Ace) (bit : ℕ) (r : Placing) (place : ℕ) (ps : List Principal) (rows : List Placing)
    → AllZip (IsPlacing list bound bit) ps rows → any_denied r.class r.there.place place rows ≡ true
    → (q : Principal) × (s : Placing) × IsPlacing list bound bit q s × (Counts r place s ≡ true)
    × (is_among q ps ≡ true)
one_counts list bound bit r place _ [] z some = cc
one_counts list bound bit r place (p ∷ ps) (s ∷ rows) z some =
    ⊎_elim (λ here. (p, s, z.0, here, or_left (principal_eq p p) _ (principal_eq_itself p)))
    (λ later. let (q, t, is, counts, among) = one_counts list bound bit r place ps rows z.1 later in
    (q, t, is, counts, or_right (principal_eq q p) _ among))
    (or_cases (Counts r place s) (any_denied r.class r.there.place place rows) some)
one_counts list bound bit r place [] (s ∷ rows) z some = absurd z

-- under a test that everyone passes, a principal of a column decides, or everyone
decider_of : (P : Principal → Type 0) (m : Principal → Bool) (c : Column) → P everyone → m everyone ≡ true
    → AllByRecursion (λ e. P e.0) c → Decider P m c
decider_of P m [] pe me only = record { principal = everyone; is = pe; passes = me; kept = λ n t w. refl }
decider_of P m ((q, k) ∷ c) pe me only = by (m q) refl (decider_of P m c pe me only.1)
  where
    by : (t : Bool) → m q ≡ t → Decider P m c → Decider P m ((q, k) ∷ c)
    by true pass d = record { principal = q; is = only.0; passes = pass; kept = λ n t w. rw (t, pass) refl }
    by false fail d = record {
      principal = d.principal;
      is = d.is;
      passes = d.passes;
      kept = λ n t w. rw (false_from_ne_true (n q) (λ here. false≢true (sym fail ∙ w q here)), fail) (d.kept n t w);
    }

-- a test that passes everyone and two principals passes whatever is one of these
one_of_three : (test : Principal → Bool) (p q x : Principal) → test everyone ≡ true → test p ≡ true → test q ≡ true
    → is_among x (everyone ∷ p ∷ q ∷ []) ≡ true → test x ≡ true
one_of_three test p q x all first second is = grind (arith, principal_eq_same)

-- what two principals get from the bound, if the first is allowed, and the other is no user beside a user or does not
-- count
pair_allowed : (less other own users beside late : Bool) → not own ≡ false → late ≡ false
    → ((not (users && beside) && not other) && (less && not late)) ≡ false
    → (users ≡ true → beside ≡ true → less ≡ false) → cond less other own ≡ true
pair_allowed less other own users beside late allows early fails apart = grind arith

-- ---- whose rights stay

-- for the ALLOW at a place of a list, and the placings of all principals
module _ (list bound : List Ace) (bit place : ℕ) (ps : List Principal) (rows : List Placing) (r : Placing)
    (l : place ≤ length list) (z : AllZip (IsPlacing (denials list) bound bit) ps rows)
    (own : IsPlacing (denials list) bound bit (principal_of (slice_index_or list place no_ace)) r) where
  -- the principal of the ALLOW
  abbrev p : Principal
  p = principal_of (slice_index_or list place no_ace)

  -- what it gets from the bound together with another principal, by their placings
  pair_gets : (q : Principal) (s : Placing) → IsPlacing (denials list) bound bit q s
      → is_granted_to bound (p ∷ q ∷ []) bit
      ≡ cond (nat_lt s.there.place r.there.place) (is_allow s.there.kind) (is_allow r.there.kind)
  pair_gets q s i = pair_granted bound p q bit
      ∙ rw (← own.there.place, ← i.there.place, ← own.there.allows, ← i.there.allows) refl

  -- the right of an ALLOW that is no excess stays
  pub stays_unless : AllByRecursion (λ e. is_among e.0 ps ≡ true) (column bound bit) → is_among everyone ps ≡ true
      → is_excess rows r place ≡ false → Stays list bound bit place
  stays_unless only all fine s valid reached =
      ap (λ x. is_allow (unwrap_or x Deny)) (sym (d.kept together (or_right (principal_eq q everyone) _
      (or_right (principal_eq q p) _ (or_left _ _ (principal_eq_itself q)))) (λ x is.
      one_of_three (matches s) p q x refl mine d.passes is)))
      ∙ pair_gets q t i
      ∙ pair_allowed (nat_lt t.there.place r.there.place) (is_allow t.there.kind) (is_allow r.there.kind)
      (is_users r.class) (is_users t.class) (nat_lt t.here.place place) allowed.0
      (le-ltb t.here.place place (omega (arith, i.here.place, not_before q d.passes))) found.2 (λ first second.
      let one : p ≡ q = both_users p q (sym own.class ∙ first) (sym i.class ∙ second)
      (clique_of s p q mine d.passes) in
      le-ltb t.there.place r.there.place (omega (
        arith,
        i.there.place,
        own.there.place,
        ap (λ v. first_place (v ∷ []) bit bound) one,
      )))
    where
      parts : (is_hit (matches s) bit (slice_index_or list place no_ace) ≡ true)
          × (not (is_denied_before (matches s) bit list place) ≡ true)
      parts = and_parts _ _ reached

      mine : matches s p ≡ true
      mine = (and_parts _ (matches s p) parts.0).1

      not_before : (q : Principal) → matches s q ≡ true → place ≤ first_place (q ∷ []) bit (denials list)
      not_before q mq = first_not_before (matches s) list q bit place l mq refl (grind (arith, parts.1))

      allowed : (not (is_allow r.there.kind) ≡ false) × (any_denied r.class r.there.place place rows ≡ false)
      allowed = or_parts _ _ (rw (le-ltb r.here.place place (omega (arith, own.here.place, not_before p mine))) at fine)

      d : Decider (λ q. is_among q ps ≡ true) (matches s) (column bound bit)
      d = decider_of (λ q. is_among q ps ≡ true) (matches s) (column bound bit) all refl only

      q : Principal
      q = d.principal

      found : (t : Placing) × IsPlacing (denials list) bound bit q t × (Counts r place t ≡ false)
      found = one_fails (denials list) bound bit r place ps rows q z allowed.1 d.is

      t : Placing
      t = found.0

      i : IsPlacing (denials list) bound bit q t
      i = found.1

      together : Principal → Bool
      together x = is_among x (everyone ∷ p ∷ q ∷ [])

  -- the right of an ALLOW that is an excess does not stay
  pub goes_if : is_hit (λ x. true) bit (slice_index_or list place no_ace) ≡ true → HasName p
      → AllByRecursion HasName ps → is_excess rows r place ≡ true → Stays list bound bit place → ⊥
  goes_if counts named names bad kept = by (or_cases (not (is_allow r.there.kind))
      (any_denied r.class r.there.place place rows) found.1)
    where
      not_true : (b : Bool) → not b ≡ true → b ≡ false
      not_true b h = grind arith

      found : (not (nat_lt r.here.place place) ≡ true)
          × ((not (is_allow r.there.kind) || any_denied r.class r.there.place place rows) ≡ true)
      found = and_parts _ _ bad

      first : place ≤ r.here.place
      first = ltb-false r.here.place place (not_true _ found.0)

      -- a right that stays is not denied to two principals that overlap and that the list does not deny it before
      pair_stays : (q : Principal) (t : Placing) → IsPlacing (denials list) bound bit q t → HasName q
          → may_overlap p q ≡ true → place ≤ t.here.place
          → cond (nat_lt t.there.place r.there.place) (is_allow t.there.kind) (is_allow r.there.kind) ≡ true
      pair_stays q t is other overlap second =
          sym (pair_gets q t is)
          ∙ ap (λ x. is_allow (unwrap_or x Deny)) (first_kind_same (λ x. is_among x (everyone ∷ p ∷ q ∷ []))
          (is_either_or_everyone p q) (column bound bit)
          (λ x. everyone_moved (principal_eq x p) (principal_eq x q) (principal_eq x everyone)))
          ∙ pair_at_most (turn list bit place) (column bound bit) p q (stays_at_most list bound bit place kept) named
          other overlap (turn_by list (is_either_or_everyone p q) bit place
          ∙ and_from _ _ (and_from _ _ (and_parts _ true counts).0 (or_everyone_first p q))
          (ap not (pair_not_before list p q bit place (omega (arith, own.here.place, first))
          (omega (arith, is.here.place, second)))))

      by : (not (is_allow r.there.kind) ≡ true) ⊎ (any_denied r.class r.there.place place rows ≡ true) → ⊥
      by (inl denies) = false≢true (sym (rw (le-ltb r.there.place r.there.place (omega arith)) (not_true _ denies))
          ∙ pair_stays p r own named (overlaps_itself p) first)
      by (inr some) =
          let (q, t, is, passes, among) = one_counts (denials list) bound bit r place ps rows z some in
          let beside = and_parts (is_denied_beside r.class t) _ passes in
          let places = and_parts (nat_lt t.there.place r.there.place) (not (nat_lt t.here.place place)) beside.1 in
          let kinds = and_parts (not (is_users r.class && is_users t.class)) (not (is_allow t.there.kind)) beside.0 in
          let apart : (is_user p && is_user q) ≡ false = rw (← own.class, ← is.class) (not_true _ kinds.0) in
          let denied : cond (nat_lt t.there.place r.there.place) (is_allow t.there.kind) (is_allow r.there.kind)
          ≡ false = rw places.0 (not_true _ kinds.1) in
          false≢true (sym denied ∙ pair_stays q t is (below_one HasName ps q names among) (not_both_users p q apart)
          (ltb-false t.here.place place (not_true _ places.1)))
