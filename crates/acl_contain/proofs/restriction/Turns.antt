-- Whether a right of an ALLOW stays under a bound, found by pairs of principals.
use Rattle.std.specs.List.{list_all}
use Rattle.acl_normal.proofs.Common.{Ace, Allow, Bool, Column, Deny, HasName, HasNames, HaveNames, IsSituation, List, Principal, Situation, [], and_from, and_parts, ap, arith, column, everyone, false, has_bit, if◌then◌else◌, is_allow, is_among, is_either_or_everyone, kind_eq, length, map, matches, max, may_overlap, no_ace, no_bit, not, or_cases, or_left, or_right, principal_eq, principal_name, principal_of, refl, slice_index_or, small_situation, subst, suc, sym, takes_part, true, unwrap_or, verdict, zero, ℕ, ⊎_elim, ◌&&◌, ◌++◌, ◌<◌, ◌||◌, ◌∙◌, ◌∷◌, ◌≡◌}
use Rattle.acl_normal.proofs.Each.{cond_holds}
use Rattle.acl_normal.proofs.unique.Columns.{HasOnly}
use Rattle.acl_perm.proofs.Bools.{and_false_right}
use Rattle.acl_normal.proofs.unique.FirstKind.{clique_of, cliques_relate}
use Rattle.acl_normal.proofs.unique.ListColumns.{names_in_column}
use Rattle.acl_normal.proofs.unique.Names.{longest_name, principal_eq_itself, principal_eq_same}
use Rattle.acl_normal.proofs.unique.Realised.{everyone_moved, first_kind_alike, one_user, small_is_situation, small_matches}
use Rattle.acl_contain.specs.internal.Restriction.{Stays, is_denied_before, is_hit}

-- whoever gets the bit from one column gets it from the other
abbrev pub AtMost : Column → Column → Type 0
AtMost c d = (s : Situation) → IsSituation s → is_allow (verdict (matches s) c) ≡ true
    → is_allow (verdict (matches s) d) ≡ true

-- if two principals overlap and both together get the bit from one column, they get it from the other
abbrev pub pair_passes : Column → Column → Principal → Principal → Bool
pair_passes c d p q = not (may_overlap p q) || (not (is_allow (verdict (is_either_or_everyone p q) c))
    || is_allow (verdict (is_either_or_everyone p q) d))

-- the principals of two columns, and everyone
abbrev pub all_of : Column → Column → List Principal
all_of c d = everyone ∷ map (λ e. e.0) (c ++ d)

-- each pair of the principals of two columns passes
abbrev pub all_pass : Column → Column → Bool
all_pass c d = list_all (λ p. list_all (pair_passes c d p) (all_of c d)) (all_of c d)

-- a test that passes each principal passes one of them
passes_one : (test : Principal → Bool) (ps : List Principal) (p : Principal) → list_all test ps ≡ true
    → is_among p ps ≡ true → test p ≡ true
passes_one test [] p all among = cc
passes_one test (q ∷ ps) p all among =
    let parts = and_parts (test q) (list_all test ps) all in
    ⊎_elim (λ same. subst (λ v. test v ≡ true) (sym (principal_eq_same p q same)) parts.0)
    (λ later. passes_one test ps p parts.1 later) (or_cases (principal_eq p q) (is_among p ps) among)

-- a test that passes whatever is one of some principals passes each of them
passes_each : (test : Principal → Bool) (ps : List Principal)
    → ((p : Principal) → is_among p ps ≡ true → test p ≡ true) → list_all test ps ≡ true
passes_each test [] one = refl
passes_each test (q ∷ ps) one = and_from (test q) (list_all test ps)
    (one q (or_left (principal_eq q q) (is_among q ps) (principal_eq_itself q)))
    (passes_each test ps (λ p among. one p (or_right (principal_eq p q) (is_among p ps) among)))

-- what holds of whatever a column names holds of each of its principals
only_named : (P : Principal → Type 0) (c : Column)
    → ((p : Principal) → is_among p (map (λ e. e.0) c) ≡ true → P p) → HasOnly P c
only_named P [] one = tt
only_named P ((q, k) ∷ c) one = (
  one q (or_left (principal_eq q q) (is_among q (map (λ e. e.0) c)) (principal_eq_itself q)),
  only_named P c (λ p among. one p (or_right (principal_eq p q) (is_among p (map (λ e. e.0) c)) among)),
)

-- what a column names, two columns name
named_first : (c d : Column) (p : Principal) → is_among p (map (λ e. e.0) c) ≡ true
    → is_among p (map (λ e. e.0) (c ++ d)) ≡ true
named_first [] d p among = cc
named_first ((q, k) ∷ c) d p among = ⊎_elim (λ here. or_left _ _ here)
    (λ later. or_right (principal_eq p q) _ (named_first c d p later))
    (or_cases (principal_eq p q) (is_among p (map (λ e. e.0) c)) among)

-- what the second of two columns names, both name
named_second : (c d : Column) (p : Principal) → is_among p (map (λ e. e.0) d) ≡ true
    → is_among p (map (λ e. e.0) (c ++ d)) ≡ true
named_second [] d p among = among
named_second ((q, k) ∷ c) d p among = or_right (principal_eq p q) _ (named_second c d p among)

-- what two columns name has a name that a situation may have, if they have such names
named_have : (c d : Column) → HaveNames c → HaveNames d → (p : Principal)
    → is_among p (map (λ e. e.0) (c ++ d)) ≡ true → HasName p
named_have [] [] first second p among = cc
named_have [] ((q, k) ∷ d) first second p among =
    ⊎_elim (λ same. subst HasName (sym (principal_eq_same p q same)) second.0)
    (λ later. named_have [] d first second.1 p later)
    (or_cases (principal_eq p q) (is_among p (map (λ e. e.0) d)) among)
named_have ((q, k) ∷ c) d first second p among =
    ⊎_elim (λ same. subst HasName (sym (principal_eq_same p q same)) first.0)
    (λ later. named_have c d first.1 second p later)
    (or_cases (principal_eq p q) (is_among p (map (λ e. e.0) (c ++ d))) among)

-- a pair that passes gets the bit from the second column if it gets it from the first
passed : (o g h : Bool) → (not o || (not g || h)) ≡ true → o ≡ true → g ≡ true → h ≡ true
passed true true h pass overlap granted = pass
passed true false h pass overlap granted = cc
passed false g h pass overlap granted = cc

-- if each pair passes, whoever gets the bit from the first column gets it from the second
pub passing_at_most : (c d : Column) → all_pass c d ≡ true → AtMost c d
passing_at_most c d pass s valid = cliques_relate (λ k l. is_allow k ≡ true → is_allow l ≡ true)
    (λ p. is_among p (all_of c d) ≡ true) (matches s) c d (clique_of s) refl refl
    (only_named (λ p. is_among p (all_of c d) ≡ true) c
    (λ p among. or_right (principal_eq p everyone) _ (named_first c d p among)))
    (only_named (λ p. is_among p (all_of c d) ≡ true) d
    (λ p among. or_right (principal_eq p everyone) _ (named_second c d p among)))
    (λ p q first second. passed (may_overlap p q) (is_allow (verdict (is_either_or_everyone p q) c))
    (is_allow (verdict (is_either_or_everyone p q) d))
    (passes_one (pair_passes c d p) (all_of c d) q
    (passes_one (λ v. list_all (pair_passes c d v) (all_of c d)) (all_of c d) p pass first) second))

-- what two overlapping principals get from one column they get from the other, if whoever gets it does so
pub pair_at_most : (c d : Column) (p q : Principal) → AtMost c d → HasName p → HasName q → may_overlap p q ≡ true
    → is_allow (verdict (is_either_or_everyone p q) c) ≡ true
    → is_allow (verdict (is_either_or_everyone p q) d) ≡ true
pair_at_most c d p q most named other overlap granted =
    let n : ℕ =
    suc (max (max (longest_name c) (longest_name d))
    (max (length (principal_name p)) (length (principal_name q)))) in
    let m = matches (small_situation n (p ∷ q ∷ [])) in
    let are : (r : Principal) → length (principal_name r) < n → m r ≡ is_either_or_everyone p q r =
    λ r l. small_matches n (p ∷ q ∷ []) (omega arith, (omega arith, tt)) (one_user p q overlap) (omega arith) r l
    ∙ everyone_moved (principal_eq r p) (principal_eq r q) (principal_eq r everyone) in
    let first = ap (λ x. is_allow (unwrap_or x Deny))
    (first_kind_alike m (is_either_or_everyone p q) c n are (omega arith)) in
    let second = ap (λ x. is_allow (unwrap_or x Deny))
    (first_kind_alike m (is_either_or_everyone p q) d n are (omega arith)) in
    sym second ∙ most (small_situation n (p ∷ q ∷ []))
    (small_is_situation n (p ∷ q ∷ []) (omega arith) (named, (other, tt))) (first ∙ granted)

-- a test of three answers holds if the third follows from the first two
pass_from : (o g h : Bool) → (o ≡ true → g ≡ true → h ≡ true) → (not o || (not g || h)) ≡ true
pass_from true true h follows = follows refl refl
pass_from true false h follows = refl
pass_from false g h follows = refl

-- if whoever gets the bit from the first column gets it from the second, each pair passes
pub at_most_passes : (c d : Column) → HaveNames c → HaveNames d → AtMost c d → all_pass c d ≡ true
at_most_passes c d first second most =
    passes_each (λ p. list_all (pair_passes c d p) (all_of c d)) (all_of c d) (λ p among.
    passes_each (pair_passes c d p) (all_of c d) (λ q also.
    pass_from (may_overlap p q) (is_allow (verdict (is_either_or_everyone p q) c))
    (is_allow (verdict (is_either_or_everyone p q) d))
    (pair_at_most c d p q most (name p among) (name q also))))
  where
    name : (p : Principal) → is_among p (all_of c d) ≡ true → HasName p
    name p among = ⊎_elim (λ same. subst HasName (sym (principal_eq_same p everyone same)) tt)
        (λ later. named_have c d first second p later)
        (or_cases (principal_eq p everyone) (is_among p (map (λ e. e.0) (c ++ d))) among)

-- ---- the DENYs before an ACE, and then it

-- the keys of the DENYs before a place that have the bit, and an ALLOW of whom the ACE there names, if it has the bit
abbrev pub turn : List Ace → ℕ → ℕ → Column
turn [] bit place = []
turn (a ∷ list) bit zero = if has_bit a.mask bit && takes_part a then (principal_of a, Allow) ∷ [] else []
turn (a ∷ list) bit (suc place) = if kind_eq a.kind Deny && (has_bit a.mask bit && takes_part a)
    then (principal_of a, Deny) ∷ turn list bit place else turn list bit place

-- a test gets the bit from that column if and only if it hits the ACE and no DENY before it
pub turn_by : (list : List Ace) (test : Principal → Bool) (bit place : ℕ)
    → is_allow (verdict test (turn list bit place))
    ≡ (is_hit test bit (slice_index_or list place no_ace) && not (is_denied_before test bit list place))
turn_by [] test bit place = no_rights bit
  where
    no_rights : (bit : ℕ) → false ≡ (is_hit test bit no_ace && not (is_denied_before test bit [] place))
    no_rights bit = rw (no_bit bit) refl
turn_by (a ∷ list) test bit zero = here (has_bit a.mask bit && takes_part a) refl (test (principal_of a)) refl
  where
    here : (t : Bool) → (has_bit a.mask bit && takes_part a) ≡ t → (m : Bool) → test (principal_of a) ≡ m
        → is_allow (verdict test (turn (a ∷ list) bit zero))
        ≡ (is_hit test bit a && not (is_denied_before test bit (a ∷ list) zero))
    here true counts true match = rw (counts, match) refl
    here true counts false match = rw (counts, match) refl
    here false counts m match = rw counts refl
turn_by (a ∷ list) test bit (suc place) =
    behind (kind_eq a.kind Deny) refl (has_bit a.mask bit && takes_part a) refl (test (principal_of a)) refl
    (turn_by list test bit place)
  where
    behind : (k : Bool) → kind_eq a.kind Deny ≡ k → (t : Bool) → (has_bit a.mask bit && takes_part a) ≡ t
        → (m : Bool) → test (principal_of a) ≡ m
        → is_allow (verdict test (turn list bit place))
        ≡ (is_hit test bit (slice_index_or list place no_ace) && not (is_denied_before test bit list place))
        → is_allow (verdict test (turn (a ∷ list) bit (suc place)))
        ≡ (is_hit test bit (slice_index_or list place no_ace)
        && not (is_denied_before test bit (a ∷ list) (suc place)))
    behind true deny true counts true match rest = rw (deny, counts, match)
        (sym (and_false_right (is_hit test bit (slice_index_or list place no_ace))))
    behind true deny true counts false match rest = rw (deny, counts, match) rest
    behind true deny false counts m match rest = rw (deny, counts) rest
    behind false allow t counts m match rest = rw allow rest

-- who gets what stays from the column of an ACE and the DENYs before it gets it from the column of the bound
pub stays_at_most : (list bound : List Ace) (bit place : ℕ) → Stays list bound bit place
    → AtMost (turn list bit place) (column bound bit)
stays_at_most list bound bit place kept s valid granted =
    kept s valid (sym (turn_by list (matches s) bit place) ∙ granted)

-- its principals have names that a situation may have, if those of the list do
turn_named : (list : List Ace) (bit place : ℕ) → HasNames list → HaveNames (turn list bit place)
turn_named [] bit place named = tt
turn_named (a ∷ list) bit zero named = cond_holds HaveNames (has_bit a.mask bit && takes_part a) _ _ (named.0, tt) tt
turn_named (a ∷ list) bit (suc place) named =
    cond_holds HaveNames (kind_eq a.kind Deny && (has_bit a.mask bit && takes_part a)) _ _
    (named.0, turn_named list bit place named.1) (turn_named list bit place named.1)

-- by the pairs, the right of the ALLOW at a place stays
abbrev pub stays : List Ace → List Ace → ℕ → ℕ → Bool
stays list bound bit place = all_pass (turn list bit place) (column bound bit)

-- what stays by the pairs stays
pub stays_holds : (list bound : List Ace) (bit place : ℕ) → stays list bound bit place ≡ true
    → Stays list bound bit place
stays_holds list bound bit place pass s valid reached =
    passing_at_most (turn list bit place) (column bound bit) pass s valid (turn_by list (matches s) bit place ∙ reached)

-- what stays, stays by the pairs
pub stays_found : (list bound : List Ace) (bit place : ℕ) → HasNames list → HasNames bound
    → Stays list bound bit place → stays list bound bit place ≡ true
stays_found list bound bit place named other kept =
    at_most_passes (turn list bit place) (column bound bit) (turn_named list bit place named)
    (names_in_column bit bound other) (stays_at_most list bound bit place kept)
