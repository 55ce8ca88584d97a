-- The questions of some principals, one after the other.
use Rattle.acl_normal.proofs.Common.{append-nil, Bool, length-append, length-map, List, None, small_sets, suc, Principal, Situation, Some, [], ap, append_assoc, arith, at_drop_more, drop, everyone, false, group, group_named, is_among, length, map, map-append, may_overlap, owner, partners, principal, principal_cmp, principal_eq, principal_pairs, principals, refl, same_answers, singles, slice_index_or, small_situation, subst, sym, true, user, if◌then◌else◌, list_any, ℕ, ◌++◌, ◌+◌, ◌<◌, ◌||◌, ◌∙◌, ◌∷◌, ◌≡◌, ◌≤◌}
use Rattle.std.specs.Ordering.{eq_by_cmp}
use Rattle.acl_perm.proofs.Orders.{principals_same}
use Rattle.acl_perm.specs.declared.principal.Principal.{Principal as PrincipalRef}
use Rattle.acl_normal.proofs.unique.Names.{principal_eq_itself, principal_eq_same}
use Rattle.acl_normal.specs.SmallSituations.{first_user, group_names}
use Rattle.acl_contain.specs.Questions.{asked_in}
use Rattle.acl_contain.specs.declared.asking.Question.{Question}
use Rattle.std.proofs.lemmas.List.{at_drop_all, map_push}

-- if the results for some principals are those for the first and those for the rest, the results so far, with those for
-- the next principal and those for the rest, are all
pub next_added : {X : Type 0} (F : List Principal → List X)
    → ((q : Principal) (qs : List Principal) → F (q ∷ qs) ≡ F (q ∷ []) ++ F qs)
    → (whole : List PrincipalRef) (q : PrincipalRef) (i : ℕ) (old : List X) {new all : List X} → i < length whole
    → new ≡ old ++ F (principal (slice_index_or whole i q) ∷ []) → old ++ F (principals (drop i whole)) ≡ all
    → new ++ F (principals (drop (i + 1) whole)) ≡ all
next_added F adds whole q i old {new} {all} lt is so_far =
    let here = F (principal (slice_index_or whole i q) ∷ []) in
    let rest = F (principals (drop (i + 1) whole)) in
    let split : F (principals (drop i whole)) ≡ here ++ rest =
    at_drop_more (λ v. F (principals v)) whole i q lt
    ∙ adds (principal (slice_index_or whole i q)) (principals (drop (i + 1) whole)) in
    ap (λ v. v ++ rest) is ∙ append_assoc old here rest ∙ ap (λ v. old ++ v) (sym split) ∙ so_far

-- the group names of some principals are those of the first and those of the rest
pub names_added : (q : Principal) (qs : List Principal) → group_names (q ∷ qs) ≡ group_names (q ∷ []) ++ group_names qs
names_added owner qs = refl
names_added (user name) qs = refl
names_added group qs = refl
names_added (group_named name) qs = refl
names_added everyone qs = refl

-- a value that may be there, and others, are these one after the other
maybe_first : {X : Type 0} (b : Bool) (x : X) (rest : List X)
    → (if b then x ∷ rest else rest) ≡ (if b then x ∷ [] else []) ++ rest
maybe_first true x rest = refl
maybe_first false x rest = refl

-- the pairs with some principals are those with the first and those with the rest
pub partners_added : (p q : Principal) (qs : List Principal)
    → partners p (q ∷ qs) ≡ partners p (q ∷ []) ++ partners p qs
partners_added p q qs = maybe_first (may_overlap p q) (p ∷ q ∷ []) (partners p qs)

-- so are their situations
pub pairs_added : (n : ℕ) (p q : Principal) (qs : List Principal)
    → map (small_situation n) (partners p (q ∷ qs))
    ≡ map (small_situation n) (partners p (q ∷ [])) ++ map (small_situation n) (partners p qs)
pairs_added n p q qs = ap (map (small_situation n)) (partners_added p q qs)
    ∙ map-append (small_situation n) (partners p (q ∷ [])) (partners p qs)

-- the situations of the pairs with some principals so far, with that of the next one and those of the rest, are all
pub pairs_next : (n : ℕ) (p : Principal) (others : List PrincipalRef) (q : PrincipalRef) (i : ℕ)
    (old : List Situation) {new all : List Situation} → i < length others
    → new ≡ old ++ map (small_situation n) (partners p (principal (slice_index_or others i q) ∷ []))
    → old ++ map (small_situation n) (partners p (principals (drop i others))) ≡ all
    → new ++ map (small_situation n) (partners p (principals (drop (i + 1) others))) ≡ all
pairs_next n p others q i old lt is so_far =
    next_added (λ qs. map (small_situation n) (partners p qs)) (pairs_added n p) others q i old lt is so_far

-- the situations of the single principals so far, with that of the next one and those of the rest, are all
pub singles_next : (n : ℕ) (whole : List PrincipalRef) (p : PrincipalRef) (i : ℕ) (old : List Situation)
    {new all : List Situation} → i < length whole
    → new ≡ old ++ small_situation n (principal (slice_index_or whole i p) ∷ []) ∷ []
    → old ++ map (small_situation n) (singles (principals (drop i whole))) ≡ all
    → new ++ map (small_situation n) (singles (principals (drop (i + 1) whole))) ≡ all
singles_next n whole p i old lt is so_far =
    next_added (λ ps. map (small_situation n) (singles ps)) (λ q qs. refl) whole p i old lt is so_far

-- after the single principals the pairs are left
pub pairs_begin : (n : ℕ) (whole : List PrincipalRef) (i : ℕ) (asked : List Situation) → length whole ≤ i
    → asked ++ map (small_situation n) (singles (principals (drop i whole)))
    ≡ map (small_situation n) ([] ∷ singles (principals whole))
    → asked ++ map (small_situation n) (principal_pairs (principals whole))
    ≡ map (small_situation n) (small_sets (principals whole))
pairs_begin n whole i asked le h =
    let S = small_situation n in
    let pairs = principal_pairs (principals whole) in
    let none : map S (singles (principals (drop i whole))) ≡ [] =
    at_drop_all (λ v. map S (singles (principals v))) whole i le in
    let done : asked ≡ map S ([] ∷ singles (principals whole)) =
    sym (append-nil asked) ∙ ap (λ v. asked ++ v) (sym none) ∙ h in
    ap (λ v. v ++ map S pairs) done ∙ sym (map-append S ([] ∷ singles (principals whole)) pairs)

-- after the pairs all are asked
pub pairs_done : (n : ℕ) (whole : List PrincipalRef) (i : ℕ) {asked all : List Situation} → length whole ≤ i
    → asked ++ map (small_situation n) (principal_pairs (principals (drop i whole))) ≡ all → asked ≡ all
pairs_done n whole i {asked} le h =
    let none : map (small_situation n) (principal_pairs (principals (drop i whole))) ≡ [] =
    at_drop_all (λ v. map (small_situation n) (principal_pairs (principals v))) whole i le in
    sym (append-nil asked) ∙ ap (λ v. asked ++ v) (sym none) ∙ h

-- the situations of the pairs so far, with those of the next principal and those of the rest, are all
pub pairs_of_next : (n : ℕ) (whole : List PrincipalRef) (p : PrincipalRef) (i : ℕ) {rest : List PrincipalRef}
    (old : List Situation) {new all : List Situation} → i < length whole → rest ≡ drop (i + 1) whole
    → new ≡ old ++ map (small_situation n) (partners (principal (slice_index_or whole i p)) (principals rest))
    → old ++ map (small_situation n) (principal_pairs (principals (drop i whole))) ≡ all
    → new ++ map (small_situation n) (principal_pairs (principals (drop (i + 1) whole))) ≡ all
pairs_of_next n whole p i {rest} old {new} {all} lt is added so_far =
    let here = partners (principal (slice_index_or whole i p)) (principals (drop (i + 1) whole)) in
    let later = principal_pairs (principals (drop (i + 1) whole)) in
    let split : principal_pairs (principals (drop i whole)) ≡ here ++ later =
    at_drop_more (λ v. principal_pairs (principals v)) whole i p lt in
    let situations : map (small_situation n) (principal_pairs (principals (drop i whole)))
    ≡ map (small_situation n) here ++ map (small_situation n) later =
    ap (map (small_situation n)) split ∙ map-append (small_situation n) here later in
    let known : new ≡ old ++ map (small_situation n) here =
    added
    ∙ ap (λ v. old ++ map (small_situation n) (partners (principal (slice_index_or whole i p)) (principals v))) is in
    ap (λ v. v ++ map (small_situation n) later) known
    ∙ append_assoc old (map (small_situation n) here) (map (small_situation n) later)
    ∙ ap (λ v. old ++ v) (sym situations) ∙ so_far

-- how many pairs with some principals there are, with the next one and with the rest
pub count_next : (p : Principal) (others : List PrincipalRef) (q : PrincipalRef) (i : ℕ) (count : ℕ) {pair : ℕ}
    → i < length others → pair ≡ length (partners p (principal (slice_index_or others i q) ∷ []))
    → count + length (partners p (principals (drop i others))) ≡ length (partners p (principals others))
    → count + pair + length (partners p (principals (drop (i + 1) others))) ≡ length (partners p (principals others))
count_next p others q i count {pair} lt is so_far =
    let split : length (partners p (principals (drop i others)))
    ≡ length (partners p (principal (slice_index_or others i q) ∷ []))
    + length (partners p (principals (drop (i + 1) others))) =
    ap length (at_drop_more (λ v. partners p (principals v)) others i q lt
    ∙ partners_added p (principal (slice_index_or others i q)) (principals (drop (i + 1) others)))
    ∙ length-append (partners p (principal (slice_index_or others i q) ∷ []))
    (partners p (principals (drop (i + 1) others))) in
    omega (arith, split, is, so_far)

-- there are no more pairs with some principals than principals
pub partners_few : (p : Principal) (qs : List Principal) → length (partners p qs) ≤ length qs
partners_few p [] = omega arith
partners_few p (q ∷ qs) = go (may_overlap p q) (partners_few p qs)
  where
    go : (b : Bool) → length (partners p qs) ≤ length qs
        → length (if b then (p ∷ q ∷ []) ∷ partners p qs else partners p qs) ≤ length (q ∷ qs)
    go true h = omega (arith, h)
    go false h = omega (arith, h)

-- how many pairs of some principals there are, with the next one and of the rest
pub pairs_left : (whole : List PrincipalRef) (p : PrincipalRef) (i : ℕ) {rest : List PrincipalRef} {pairs : ℕ}
    → i < length whole → rest ≡ drop (i + 1) whole
    → pairs ≡ length (partners (principal (slice_index_or whole i p)) (principals rest))
    → length (principal_pairs (principals (drop i whole)))
    ≡ pairs + length (principal_pairs (principals (drop (i + 1) whole)))
pairs_left whole p i {rest} {pairs} lt is counted =
    let here : pairs ≡ length (partners (principal (slice_index_or whole i p)) (principals (drop (i + 1) whole))) =
    counted ∙ ap (λ v. length (partners (principal (slice_index_or whole i p)) (principals v))) is in
    ap length (at_drop_more (λ v. principal_pairs (principals v)) whole i p lt)
    ∙ length-append (partners (principal (slice_index_or whole i p)) (principals (drop (i + 1) whole)))
    (principal_pairs (principals (drop (i + 1) whole)))
    ∙ ap (λ v. v + length (principal_pairs (principals (drop (i + 1) whole)))) (sym here)

-- after the last principal no pair is left
pub no_pair_left : (whole : List PrincipalRef) (i : ℕ) → length whole ≤ i
    → length (principal_pairs (principals (drop i whole))) ≡ 0
no_pair_left whole i le = at_drop_all (λ v. length (principal_pairs (principals v))) whole i le

-- how many sets of one principal there are
pub singles_counted : (ps : List Principal) → length (singles ps) ≡ length ps
singles_counted [] = refl
singles_counted (p ∷ ps) = ap suc (singles_counted ps)

-- how many small sets there are
pub sets_counted : (ps : List Principal)
    → length (small_sets ps) ≡ 1 + length ps + length (principal_pairs ps)
sets_counted ps =
    let both = length-append (singles ps) (principal_pairs ps) in
    let ones = singles_counted ps in
    omega (arith, both, ones)

-- how many small sets some principals of the code have
pub sets_of_code : (whole : List PrincipalRef)
    → length (small_sets (principals whole)) ≡ 1 + length whole + length (principal_pairs (principals whole))
sets_of_code whole =
    let sets = sets_counted (principals whole) in
    let same = length-map whole principal in
    omega (arith, sets, same)

-- if a principal is a user, the first user of it and others is that user
pub user_here : (p : Principal) (ps : List Principal) (name : List ℕ) → first_user (p ∷ []) ≡ Some name
    → first_user (p ∷ ps) ≡ Some name
user_here owner ps name h = cc
user_here (user other) ps name h = h
user_here group ps name h = cc
user_here (group_named other) ps name h = cc
user_here everyone ps name h = cc

-- if a principal is no user, the first user of it and others is the first of the others
pub user_later : (p : Principal) (ps : List Principal) → first_user (p ∷ []) ≡ None
    → first_user (p ∷ ps) ≡ first_user ps
user_later owner ps h = refl
user_later (user other) ps h = cc
user_later group ps h = refl
user_later (group_named other) ps h = refl
user_later everyone ps h = refl

-- the next principal is the first user
pub user_found : (set : List PrincipalRef) (p : PrincipalRef) (i : ℕ) {name : List ℕ} → i < length set
    → first_user (principal (slice_index_or set i p) ∷ []) ≡ Some name
    → first_user (principals (drop i set)) ≡ first_user (principals set) → first_user (principals set) ≡ Some name
user_found set p i {name} lt here so_far = sym so_far ∙ at_drop_more (λ v. first_user (principals v)) set i p lt
    ∙ user_here (principal (slice_index_or set i p)) (principals (drop (i + 1) set)) name here

-- the next principal is no user
pub user_passed : (set : List PrincipalRef) (p : PrincipalRef) (i : ℕ) → i < length set
    → first_user (principal (slice_index_or set i p) ∷ []) ≡ None
    → first_user (principals (drop i set)) ≡ first_user (principals set)
    → first_user (principals (drop (i + 1) set)) ≡ first_user (principals set)
user_passed set p i lt here so_far =
    sym (at_drop_more (λ v. first_user (principals v)) set i p lt
    ∙ user_later (principal (slice_index_or set i p)) (principals (drop (i + 1) set)) here) ∙ so_far

-- the test of the code whether two principals are the same is that of the definitions
same_principal : (p q : Principal) → eq_by_cmp principal_cmp q p ≡ principal_eq p q
same_principal p q = same_answers (eq_by_cmp principal_cmp q p) (principal_eq p q)
    (λ e. subst (λ v. principal_eq p v ≡ true) (sym ((principals_same q p).0 e)) (principal_eq_itself p))
    (λ e. (principals_same q p).1 (sym (principal_eq_same p q e)))

-- the test whether a principal is in a set
pub in_set : (p : PrincipalRef) (set : List PrincipalRef)
    → list_any (λ q. eq_by_cmp principal_cmp (principal q) (principal p)) set ≡ is_among (principal p) (principals set)
in_set p [] = refl
in_set p (q ∷ set) =
    ap (λ v. v || list_any (λ q. eq_by_cmp principal_cmp (principal q) (principal p)) set)
    (same_principal (principal p) (principal q))
    ∙ ap (λ v. principal_eq (principal p) (principal q) || v) (in_set p set)

-- the situation of these names
abbrev situation_with : List ℕ → List ℕ → List ℕ → List (List ℕ) → Situation
situation_with owned owning asking groups =
    record { owner_name = owned; owning_group = owning; user_name = asking; groups = groups }

-- a question has the names of a situation
asked_is : (s : Situation) (q : Question) → q.owner.items ≡ s.owner_name → q.group.items ≡ s.owning_group
    → q.user.items ≡ s.user_name → map (λ g. g.items) q.groups.items ≡ s.groups → asked_in q ≡ s
asked_is s q first second third fourth =
    ap (λ v. situation_with v q.group.items q.user.items (map (λ g. g.items) q.groups.items)) first
    ∙ ap (λ v. situation_with s.owner_name v q.user.items (map (λ g. g.items) q.groups.items)) second
    ∙ ap (λ v. situation_with s.owner_name s.owning_group v (map (λ g. g.items) q.groups.items)) third
    ∙ ap (situation_with s.owner_name s.owning_group s.user_name) fourth

-- so the situations have one more if a question with these names is added
pub question_added : {s : Situation} (old new : List Question) (q : Question) → new ≡ old ++ q ∷ []
    → q.owner.items ≡ s.owner_name → q.group.items ≡ s.owning_group → q.user.items ≡ s.user_name
    → map (λ g. g.items) q.groups.items ≡ s.groups → map asked_in new ≡ map asked_in old ++ s ∷ []
question_added {s} old new q added first second third fourth =
    ap (map asked_in) added ∙ map_push asked_in old q
    ∙ ap (λ v. map asked_in old ++ v ∷ []) (asked_is s q first second third fourth)
