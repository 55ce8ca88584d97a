-- Which ALLOWs exceed a bound, by the numbers of the principals that they name and by tables.
use Rattle.acl_normal.proofs.Common.{Ace, AceRef, AllByRecursion, AllZip, Allow, AreWhoms, Bool, Deny, HasName, HasNames, IsPlacing, IsWhom, Kind, List, Principal, [], ace, aces_in, and_from, and_parts, ap, arith, cases_lt, column, drop, eq-eqb, everyone, false, false≢true, get_or-map, get_or_read, has_bit, is_allow, is_among, length, length-append, length-map, map-append, mentioned, nat_lt, ne_eqb, no_ace, no_placing, not, or_cases, or_left, or_right, principal_eq, principal_of, principal, principals, refl, slice_index_or, subst, suc, sym, take, takes_part, true, zero, ℕ, ⊎_elim, ◌&&◌, ◌||◌, ◌++◌, ◌+◌, ◌-◌, ◌<◌, ◌∙◌, ◌∷◌, ◌≡◌, ◌≤◌}
use Rattle.acl_normal.proofs.Each.{all_append, all_at, all_weaker, zip_at, zip_length}
use Rattle.acl_normal.proofs.Exports.{denied_over, mentioned_named, second_has, whom_at, whoms_first, whoms_second}
use Rattle.acl_normal.proofs.unique.Names.{principal_eq_same}
use Rattle.acl_normal.specs.declared.comparison.mentioned_principals.Mentions.{Mentions}
use Rattle.acl_normal.specs.declared.comparison.placing.Placing.{Placing}
use Rattle.acl_normal.specs.declared.comparison.placing.Whom.{Whom}
use Rattle.acl_normal.specs.declared.comparison.placing.Whom.TheVariants.{Everyone, Nobody, One}
use Rattle.acl_normal.specs.internal.comparison.MentionedRows.{AreMentioned}
use Rattle.acl_perm.specs.declared.principal.Principal.TheVariants.{Everyone as AnyOne}
use Rattle.acl_normal.specs.declared.principal_class.Class.{Class}
use Rattle.acl_normal.specs.declared.principal_class.Class.TheVariants.{Others, Users}
use Rattle.acl_normal.specs.internal.comparison.FirstPlaces.{IsWhomWithin, hits, is_of, names_all}
use Rattle.acl_normal.specs.internal.comparison.PlaceTables.{IsDeniedTable, most_denied}
use Rattle.acl_contain.proofs.restriction.Excesses.{goes_if, is_excess, stays_unless}
use Rattle.acl_contain.specs.declared.restricting.limits.Limits.{Limits}
use Rattle.acl_contain.specs.declared.restricting.named.Named.{Named}
use Rattle.acl_contain.specs.internal.Limits.{AreLimits, IsNaming, bound_of, denial, denials, exceeds, most_of, placing_at, whom_exceeds}
use Rattle.acl_contain.specs.internal.LimitTables.{HaveTables}
use Rattle.acl_contain.specs.internal.Restriction.{Stays}

-- ---- principals, and everyone after them

-- the principal at a number, or everyone
value_at : (ps : List Principal) (k : ℕ)
    → slice_index_or (ps ++ everyone ∷ []) k everyone ≡ slice_index_or ps k everyone
value_at [] zero = refl
value_at [] (suc k) = refl
value_at (p ∷ ps) zero = refl
value_at (p ∷ ps) (suc k) = value_at ps k

-- past the principals there is everyone
past_all : (ps : List Principal) (k : ℕ) → length ps ≤ k → slice_index_or ps k everyone ≡ everyone
past_all [] k l = refl
past_all (p ∷ ps) zero l = absurd (omega (arith, l))
past_all (p ∷ ps) (suc k) l = past_all ps k (omega (arith, l))

-- whom an ACE names is the same with everyone after the principals
one_more_whom : (ps : List Principal) (a : Ace) (w : Whom) → IsWhom ps a w → IsWhom (ps ++ everyone ∷ []) a w
one_more_whom ps a w h = record {
  within = inside w h.within;
  part = h.part;
  all = h.all;
  hit = λ k l. ap (is_of a) (value_at ps k) ∙ ⊎_elim (λ less. h.hit k less) (λ past. ap (is_of a) (past_all ps k past)
      ∙ at w h.within h.all k past (omega (arith, l, count))) (cases_lt k (length ps));
}
  where
    count : length (ps ++ everyone ∷ []) ≡ length ps + 1
    count = length-append ps (everyone ∷ [])

    inside : (w : Whom) → IsWhomWithin w (length ps) → IsWhomWithin w (length (ps ++ everyone ∷ []))
    inside Nobody l = tt
    inside (One i) l = omega (arith, l, count)
    inside Everyone l = tt

    at : (w : Whom) → IsWhomWithin w (length ps)
        → (takes_part a && principal_eq (principal_of a) everyone) ≡ names_all w
        → (k : ℕ) → length ps ≤ k → k < length ps + 1 → is_of a everyone ≡ hits w k
    at Nobody l all k past end = grind (arith, all)
    at (One i) l all k past end = grind (arith, all, ne_eqb k i (λ same. absurd (omega (arith, same, past, l))))
    at Everyone l all k past end = grind (arith, all)

-- whom the ACEs of a list name is the same with everyone after the principals
pub with_everyone : (ps : List Principal) (list : List Ace) (ws : List Whom) → AreWhoms ps list ws
    → AreWhoms (ps ++ everyone ∷ []) list ws
with_everyone ps [] [] z = tt
with_everyone ps (a ∷ list) (w ∷ ws) z = (one_more_whom ps a w z.0, with_everyone ps list ws z.1)
with_everyone ps [] (w ∷ ws) z = absurd z
with_everyone ps (a ∷ list) [] z = absurd z

-- whom the DENYs of a list name is whom the ACEs of the list name
pub denials_name : (ps : List Principal) (list : List Ace) (ws : List Whom) → AreWhoms ps list ws
    → AreWhoms ps (denials list) ws
denials_name ps [] [] z = tt
denials_name ps (a ∷ list) (w ∷ ws) z = (
  record { within = z.0.within; part = z.0.part; all = z.0.all; hit = z.0.hit },
  denials_name ps list ws z.1,
)
denials_name ps [] (w ∷ ws) z = absurd z
denials_name ps (a ∷ list) [] z = absurd z

-- what is everyone or one of some principals is one of them with everyone after them
among_last : (ps : List Principal) (p : Principal) → is_among p (everyone ∷ ps) ≡ true
    → is_among p (ps ++ everyone ∷ []) ≡ true
among_last [] p among = among
among_last (q ∷ ps) p among = ⊎_elim
    (λ all. or_right (principal_eq p q) _ (among_last ps p (or_left _ _ all)))
    (λ some. ⊎_elim (λ here. or_left _ _ here)
    (λ later. or_right (principal_eq p q) _ (among_last ps p (or_right (principal_eq p everyone) _ later)))
    (or_cases (principal_eq p q) (is_among p ps) some))
    (or_cases (principal_eq p everyone) (is_among p (q ∷ ps)) among)

-- ---- the ALLOW at a place

-- the number in the table of a class is the greatest place
most_is : (l : Limits) (size : ℕ) (r : Placing) → IsDeniedTable Users size l.placings.items l.users.items
    → IsDeniedTable Others size l.placings.items l.others.items → r.there.place < length l.users.items
    → r.there.place < length l.others.items → most_of l r ≡ most_denied r.class r.there.place l.placings.items
most_is l size r users others in_users in_others = by r.class refl
  where
    by : (c : Class) → r.class ≡ c → most_of l r ≡ most_denied r.class r.there.place l.placings.items
    by Users class = rw class (users.each r.there.place (omega (arith, in_users, users.count)))
    by Others class = rw class (others.each r.there.place (omega (arith, in_others, others.count)))

-- there are as many placings as principals
pub placings_count : (n : Named) (bit : ℕ) (l : Limits) → AreLimits n bit l
    → length l.placings.items ≡ length (principals n.whole.items)
placings_count n bit l limits = zip_length (IsPlacing (aces_in n.list.aces.items) (bound_of n) bit)
    (principals n.whole.items) l.placings.items limits.placings.each

-- there is one more placing than principals that the lists mention
pub all_placings : (list : List Ace) (n : Named) (bit : ℕ) (l : Limits) → IsNaming list n → AreLimits n bit l
    → length l.placings.items ≡ length (mentioned list (bound_of n)) + 1
all_placings list n bit l named limits = placings_count n bit l limits ∙ ap length named.whole
    ∙ length-append (mentioned list (bound_of n)) (everyone ∷ [])

-- the principal of an ACE that is of one principal, and not of everyone
one_named : (a : Ace) (p : Principal) → takes_part a ≡ true
    → (takes_part a && principal_eq (principal_of a) everyone) ≡ false → is_of a p ≡ true → principal_of a ≡ p
one_named a p part all hit = grind (arith, part, all, hit, principal_eq_same)

-- the right of an ALLOW stays if and only if a test says that the ALLOW does not exceed the bound
abbrev pub IsTest : List Ace → List Ace → ℕ → ℕ → Bool → Type 0
IsTest list bound bit place exceeding = (exceeding ≡ false → Stays list bound bit place)
    × (exceeding ≡ true → Stays list bound bit place → ⊥)

-- for the ALLOW at a place of a list that has a right
module _ (list : List Ace) (n : Named) (bit place : ℕ) (l : Limits) (named : IsNaming list n)
    (limits : AreLimits n bit l) (tables : HaveTables l.placings.items l.users.items l.others.items)
    (names : HasNames list) (bound_names : HasNames (bound_of n)) (lt : place < length list)
    (has : has_bit (slice_index_or list place no_ace).mask bit ≡ true) where
  -- all principals of the code
  abbrev pub ps : List Principal
  ps = principals n.whole.items

  -- the placings, by the DENYs of the list
  placed : AllZip (IsPlacing (denials list) (bound_of n) bit) ps l.placings.items
  placed = subst (λ v. AllZip (IsPlacing v (bound_of n) bit) ps l.placings.items) named.denials
      limits.placings.each

  -- the test by the number of the principal that the ALLOW names
  by_number : (k : ℕ) → k < length ps → principal_of (slice_index_or list place no_ace) ≡ slice_index_or ps k everyone
      → takes_part (slice_index_or list place no_ace) ≡ true → IsTest list (bound_of n) bit place (exceeds l k place)
  by_number k inside is part = (
    λ fine. stays_unless list (bound_of n) bit place ps l.placings.items (placing_at l k)
        (omega (arith, lt)) placed own only among (sym same ∙ fine),
    λ bad. goes_if list (bound_of n) bit place ps l.placings.items (placing_at l k)
        (omega (arith, lt)) placed own (and_from _ _ (and_from _ _ has part) refl)
        (all_at (λ a. HasName (principal_of a)) list place no_ace lt names) all_named (sym same ∙ bad),
  )
    where
      own : IsPlacing (denials list) (bound_of n) bit (principal_of (slice_index_or list place no_ace)) (placing_at l k)
      own = subst (λ v. IsPlacing (denials list) (bound_of n) bit v (placing_at l k)) (sym is)
          (zip_at (IsPlacing (denials list) (bound_of n) bit) ps l.placings.items k everyone no_placing inside placed)

      only : AllByRecursion (λ e. is_among e.0 ps ≡ true) (column (bound_of n) bit)
      only = all_weaker (λ e. is_among e.0 (everyone ∷ mentioned list (bound_of n)) ≡ true)
          (λ e. is_among e.0 ps ≡ true) (column (bound_of n) bit)
          (λ e one. subst (λ v. is_among e.0 v ≡ true) (sym named.whole)
          (among_last (mentioned list (bound_of n)) e.0 one))
          (second_has bit list (bound_of n))

      among : is_among everyone ps ≡ true
      among = subst (λ v. is_among everyone v ≡ true) (sym named.whole)
          (among_last (mentioned list (bound_of n)) everyone refl)

      all_named : AllByRecursion HasName ps
      all_named = subst (AllByRecursion HasName) (sym named.whole)
          (all_append HasName (mentioned list (bound_of n)) (everyone ∷ [])
          (mentioned_named list (bound_of n) names bound_names) (tt, tt))

      same : exceeds l k place ≡ is_excess l.placings.items (placing_at l k) place
      same = ap (λ t. not (nat_lt (placing_at l k).here.place place)
          && (not (is_allow (placing_at l k).there.kind) || t))
          (ap (nat_lt place) (most_is l limits.size (placing_at l k) limits.users limits.others
          (tables.in_users k (omega (arith, inside, placings_count n bit l limits)))
          (tables.in_others k (omega (arith, inside, placings_count n bit l limits))))
          ∙ denied_over (placing_at l k).class (placing_at l k).there.place place l.placings.items)

  -- the test by whom the ALLOW names
  pub by_whom : (w : Whom) → IsWhom ps (slice_index_or list place no_ace) w
      → IsTest list (bound_of n) bit place (whom_exceeds l w place)
  by_whom Nobody h = (
    λ fine s valid reached. absurd (false≢true (sym h.part
        ∙ (and_parts _ _ (and_parts _ _ (and_parts _ _ reached).0).0).1)),
    λ bad. cc,
  )
  by_whom (One k) h = by_number k h.within
      (one_named (slice_index_or list place no_ace) (slice_index_or ps k everyone) h.part h.all
      (h.hit k h.within ∙ eq-eqb k k refl)) h.part
  by_whom Everyone h = by_number (length l.placings.items - 1) (omega (arith, whole, placings_count n bit l limits))
      (principal_eq_same (principal_of (slice_index_or list place no_ace)) everyone (and_parts _ _ h.all).1 ∙ sym last)
      h.part
    where
      whole : length l.placings.items ≡ length (mentioned list (bound_of n)) + 1
      whole = all_placings list n bit l named limits

      last : slice_index_or ps (length l.placings.items - 1) everyone ≡ everyone
      last = ap (λ v. slice_index_or v (length l.placings.items - 1) everyone) named.whole
          ∙ value_at (mentioned list (bound_of n)) (length l.placings.items - 1)
          ∙ past_all (mentioned list (bound_of n)) (length l.placings.items - 1) (omega (arith, whole))

-- ---- the lists of the code

-- as many are named as there are ACEs
pub named_count : (list : List AceRef) (n : Named) → IsNaming (aces_in list) n → length n.list.whoms.items ≡ length list
named_count list n named = omega (
  arith,
  zip_length (IsWhom (principals n.whole.items)) (aces_in n.list.aces.items) n.list.whoms.items named.whoms.here,
  ap length named.denials,
  length-map (aces_in list) denial,
  length-map list ace,
)

-- whom the ACE at a place names
pub named_at : (list : List AceRef) (n : Named) (place : ℕ) (w : Whom) → IsNaming (aces_in list) n → place < length list
    → w ≡ slice_index_or n.list.whoms.items place w
    → IsWhom (principals n.whole.items) (slice_index_or (aces_in list) place no_ace) w
named_at list n place w named lt is =
    subst (IsWhom (principals n.whole.items) (slice_index_or (aces_in list) place no_ace)) (sym value)
    (record { within = there.within; part = there.part; all = there.all; hit = there.hit })
  where
    inside : place < length (aces_in list)
    inside = omega (arith, lt, length-map list ace)

    value : w ≡ slice_index_or n.list.whoms.items place Nobody
    value = get_or_read n.list.whoms.items place w (omega (arith, lt, named_count list n named)) is Nobody

    there : IsWhom (principals n.whole.items) (denial (slice_index_or (aces_in list) place no_ace))
        (slice_index_or n.list.whoms.items place Nobody)
    there = subst (λ a. IsWhom (principals n.whole.items) a (slice_index_or n.list.whoms.items place Nobody))
        (get_or-map denial (aces_in list) place no_ace no_ace inside)
        (whom_at (principals n.whole.items) (denials (aces_in list)) n.list.whoms.items place
        (omega (arith, inside, length-map (aces_in list) denial))
        (subst (λ v. AreWhoms (principals n.whole.items) v n.list.whoms.items) named.denials named.whoms.here))

-- what the code gathers of two lists is what names their principals
pub named_of : (list bound : List AceRef) (m : Mentions) (first second : List Whom) (n : Named)
    → AreMentioned (aces_in list) (aces_in bound) m → first ≡ take (length list) m.whoms.items
    → second ≡ drop (length list) m.whoms.items → n.whole.items ≡ m.principals.items ++ AnyOne ∷ []
    → aces_in n.list.aces.items ≡ denials (aces_in list) → n.list.whoms.items ≡ first → n.bound.aces.items ≡ bound
    → n.bound.whoms.items ≡ second → IsNaming (aces_in list) n
named_of list bound m first second n h front back more denied firsts same seconds = record {
  whole = whole ∙ ap (λ v. v ++ everyone ∷ [])
      (h.in_order ∙ ap (mentioned (aces_in list)) (sym (ap aces_in same)));
  denials = denied;
  whoms = record {
    here = subst (λ ps. AreWhoms ps (aces_in n.list.aces.items) n.list.whoms.items) (sym whole)
        (subst (λ v. AreWhoms (principals m.principals.items ++ everyone ∷ []) v n.list.whoms.items) (sym denied)
        (denials_name _ (aces_in list) n.list.whoms.items (with_everyone (principals m.principals.items) (aces_in list)
        n.list.whoms.items (whoms_first (principals m.principals.items) list bound m.whoms.items refl (firsts ∙ front)
        h.whoms))));
    there = subst (λ ps. AreWhoms ps (bound_of n) n.bound.whoms.items) (sym whole)
        (subst (λ v. AreWhoms (principals m.principals.items ++ everyone ∷ []) (aces_in v) n.bound.whoms.items)
        (sym same) (with_everyone (principals m.principals.items) (aces_in bound) n.bound.whoms.items
        (whoms_second (principals m.principals.items) list bound m.whoms.items refl (seconds ∙ back) h.whoms)));
  };
}
  where
    whole : principals n.whole.items ≡ principals m.principals.items ++ everyone ∷ []
    whole = ap principals more ∙ map-append principal m.principals.items (AnyOne ∷ [])

-- the code's ACE at a place is that of the list
pub ace_there : (list : List AceRef) (place : ℕ) (x : AceRef) → place < length list → x ≡ slice_index_or list place x
    → slice_index_or (aces_in list) place no_ace ≡ ace x
ace_there list place x lt is = get_or-map ace list place x no_ace lt ∙ ap ace (sym is)

-- what the code finds of an ACE at a place: if it finds no excess, the right of an ALLOW stays, and else the ACE is an
-- ALLOW whose right does not stay
pub judged : (list : List AceRef) (n : Named) (bit place : ℕ) (l : Limits) (x : AceRef) (w : Whom) {answer : Bool}
    → IsNaming (aces_in list) n → AreLimits n bit l → HaveTables l.placings.items l.users.items l.others.items
    → HasNames (aces_in list) → HasNames (bound_of n) → place < length list → x ≡ slice_index_or list place x
    → w ≡ slice_index_or n.list.whoms.items place w
    → answer ≡ ((is_allow x.kind && has_bit x.mask.bits bit) && whom_exceeds l w place)
    → (answer ≡ false → (slice_index_or (aces_in list) place no_ace).kind ≡ Allow
    → has_bit (slice_index_or (aces_in list) place no_ace).mask bit ≡ true
    → Stays (aces_in list) (bound_of n) bit place)
    × (answer ≡ true → ((slice_index_or (aces_in list) place no_ace).kind ≡ Allow)
    × (Stays (aces_in list) (bound_of n) bit place → ⊥))
judged list n bit place l x w named limits tables names bound_names lt at is found = (
  λ fine allow has. (tested has).0 (rw (
    ap (λ a. is_allow a.kind) (sym there) ∙ ap is_allow allow,
    ap (λ a. has_bit a.mask bit) (sym there) ∙ has,
  ) at (sym found ∙ fine)),
  λ bad.
      let parts = and_parts (is_allow x.kind && has_bit x.mask.bits bit) (whom_exceeds l w place) (sym found ∙ bad) in
      let own = and_parts (is_allow x.kind) (has_bit x.mask.bits bit) parts.0 in (
        ap (λ a. a.kind) there ∙ allow_is x.kind own.0,
        (tested (ap (λ a. has_bit a.mask bit) there ∙ own.1)).1 parts.1,
      ),
)
  where
    there : slice_index_or (aces_in list) place no_ace ≡ ace x
    there = ace_there list place x lt at

    tested : has_bit (slice_index_or (aces_in list) place no_ace).mask bit ≡ true
        → IsTest (aces_in list) (bound_of n) bit place (whom_exceeds l w place)
    tested has = by_whom (aces_in list) n bit place l named limits tables names bound_names
        (omega (arith, lt, length-map list ace)) has w (named_at list n place w named lt is)

    allow_is : (k : Kind) → is_allow k ≡ true → k ≡ Allow
    allow_is Allow h = refl
    allow_is Deny h = cc
