-- The first small set, by least numbers.
use Rattle.acl_normal.proofs.Common.{[], Ace, AgreesAt, all_mentioned, all_rights, AllByRecursion, ap, arith, Bool, cases_lt, cond, drop, everyone, false, false≢true, FindSet, FindsFirst, GrantAlikeTo, has_bit, inl, inr, is_allow, is_granted_to, length, List, may_overlap, None, principal_pairs, partners, Principal, principal_eq, principal_of, refl, singles, slice_index_or, small_sets, Some, subst, sym, take, takes_part, true, TwoLists, ℕ, ◌&&◌, ◌+◌, ◌-◌, ◌<◌, ◌||◌, ◌∙◌, ◌∷◌, ◌≡◌, ◌≤◌, ◌⊎◌}
use Rattle.std.proofs.Common.{suc, zero}
use Rattle.std.proofs.lemmas.List.{get_or-take, get_or-drop, length-take, length-drop}
use Rattle.std.proofs.lemmas.Bool.{cases_order, cond_both}
use Rattle.acl_normal.proofs.Each.{all_at, all_from, split_there}
use Rattle.acl_normal.proofs.unique.Names.{overlaps_back}
use Rattle.acl_normal.proofs.comparison.Directions.{differ_moved}
use Rattle.acl_normal.proofs.comparison.PairGrants.{no_pairs, pair_alone, pairs_after}
use Rattle.acl_normal.proofs.comparison.SetEvaluation.{granted_to-cons}
use Rattle.acl_normal.proofs.comparison.SetSearchLemmas.{found_left, found_right}
use Rattle.acl_normal.specs.internal.comparison.FirstPlaces.{Agrees, AlikeAlone, AlikeWith, AlikeWithAll, IsLeast, OnAll}
use Rattle.acl_normal.specs.internal.comparison.SetSearch.{AlikeAt, FindsSet}
use Rattle.acl_normal.specs.declared.comparison.direction.Direction.{Direction}
use Rattle.acl_normal.specs.internal.comparison.TwoLists.{AreAlikeTo, IsFirstMember, IsFirstPartner, IsFirstSingle, later_than, principal_at}

-- the first principal to whom alone the lists do not grant the same is the first single set that is found
pub singles_first : (way : Direction) (xs ys : List Ace) (ps : List Principal) (v : ℕ) → v < length ps
    → ((k : ℕ) → k < v → GrantAlikeTo way xs ys (slice_index_or ps k everyone ∷ []))
    → (GrantAlikeTo way xs ys (slice_index_or ps v everyone ∷ []) → ⊥)
    → FindsFirst way xs ys (singles ps) (Some (slice_index_or ps v everyone ∷ []))
singles_first way xs ys [] v lt before at = absurd (omega arith)
singles_first way xs ys (p ∷ ps) zero lt before at = inr (at, refl)
singles_first way xs ys (p ∷ ps) (suc v) lt before at =
    inl (before 0 (omega arith), singles_first way xs ys ps v (omega arith) (λ k l. before (suc k) (omega arith)) at)

-- if the lists grant alike to each principal alone, no single set is found
pub singles_none : (way : Direction) (xs ys : List Ace) (ps : List Principal)
    → ((k : ℕ) → k < length ps → GrantAlikeTo way xs ys (slice_index_or ps k everyone ∷ []))
    → FindsFirst way xs ys (singles ps) None
singles_none way xs ys [] h = refl
singles_none way xs ys (p ∷ ps) h = inl (h 0 (omega arith), singles_none way xs ys ps (λ k l. h (suc k) (omega arith)))

-- the first partner with whom the lists do not grant the same is in the first pair that is found
pub partners_first : (way : Direction) (xs ys : List Ace) (p : Principal) (ps : List Principal) (v : ℕ) → v < length ps
    → ((k : ℕ) → k < v → OnAll (AlikeWith way xs ys p ps) k) → (OnAll (AlikeWith way xs ys p ps) v → ⊥)
    → FindsFirst way xs ys (partners p ps) (Some (p ∷ slice_index_or ps v everyone ∷ []))
partners_first way xs ys p [] v lt before at = absurd (omega arith)
partners_first way xs ys p (q ∷ ps) zero lt before at = cond_both (may_overlap p q) _ _
    (λ sets. FindsFirst way xs ys sets (Some (p ∷ q ∷ []))) (λ e. inr ((λ alike. at (λ b has o. alike b has)), refl))
    (λ e. absurd (at (λ b has o. absurd (false≢true (sym e ∙ o)))))
partners_first way xs ys p (q ∷ ps) (suc v) lt before at =
    let later = partners_first way xs ys p ps v (omega arith) (λ k l. before (suc k) (omega arith)) at in
    cond_both (may_overlap p q) _ _ (λ sets. FindsFirst way xs ys sets (Some (p ∷ slice_index_or ps v everyone ∷ [])))
    (λ e. inl ((λ b has. before 0 (omega arith) b has e), later)) (λ e. later)

-- a principal that agrees with all principals on each right agrees with them on all rights
pub on_each : (way : Direction) (xs ys : List Ace) (p : Principal) (ps : List Principal)
    → ((b : ℕ) → has_bit all_rights b ≡ true → AgreesAt way xs ys ps b p) → Agrees way xs ys ps p
on_each way xs ys p [] h = tt
on_each way xs ys p (q ∷ ps) h = ((λ o b has. (h b has).0 o), on_each way xs ys p ps (λ b has. (h b has).1))

-- the principals before the first member of a differing pair agree with all
pub front_agrees : (way : Direction) (xs ys : List Ace) (ps : List Principal) (z : ℕ) → z ≤ length ps
    → ((k : ℕ) → k < z → OnAll (AlikeWithAll way xs ys ps) k) → AllByRecursion (Agrees way xs ys ps) (take z ps)
front_agrees way xs ys ps z le before = all_from (Agrees way xs ys ps) (take z ps) everyone
    (λ k lt. let l : k < z = omega (arith, length-take z ps) in
    subst (λ v. Agrees way xs ys ps v) (sym (get_or-take z ps k everyone l))
    (on_each way xs ys (slice_index_or ps k everyone) ps (before k l)))

-- if all principals before one agree with all, and it has a differing partner, their pair is the first
pub pairs_at : (way : Direction) (xs ys : List Ace) (ps set : List Principal) (z : ℕ) → z < length ps
    → ((k : ℕ) → k < z → OnAll (AlikeWithAll way xs ys ps) k)
    → FindsFirst way xs ys (partners (slice_index_or ps z everyone) (drop (z + 1) ps)) (Some set)
    → FindsFirst way xs ys (principal_pairs ps) (Some set)
pairs_at way xs ys ps set z lt before f =
    let s : Principal = slice_index_or ps z everyone in
    let rest : List Principal = drop (z + 1) ps in
    subst (λ v. FindsFirst way xs ys (principal_pairs v) (Some set)) (sym (split_there ps z everyone lt))
    (pairs_after way xs ys ps (take z ps) (s ∷ rest) [] (Some set) (split_there ps z everyone lt)
    (front_agrees way xs ys ps z (omega arith) before)
    (found_left way xs ys (partners s rest) (principal_pairs rest) set f))

-- if each principal agrees with all, no pair is found
pub pairs_none : (way : Direction) (xs ys : List Ace) (ps : List Principal) (z : ℕ) → length ps ≤ z
    → ((k : ℕ) → k < z → OnAll (AlikeWithAll way xs ys ps) k) → FindsFirst way xs ys (principal_pairs ps) None
pairs_none way xs ys ps z le before =
    no_pairs way xs ys ps ps [] refl (all_from (Agrees way xs ys ps) ps everyone
    (λ k lt. on_each way xs ys (slice_index_or ps k everyone) ps (before k (omega arith))))

-- one ACE in front grants the same to two principals in either order
front_swapped : (t e x y k g h : Bool) → g ≡ h
    → cond (t && (e || (x || (y || false)))) k g ≡ cond (t && (e || (y || (x || false)))) k h
front_swapped t e x y k g h i = grind arith

-- what is granted to two is granted in either order of them
pub pair_swapped : (xs : List Ace) (p q : Principal) (b : ℕ)
    → is_granted_to xs (p ∷ q ∷ []) b ≡ is_granted_to xs (q ∷ p ∷ []) b
pair_swapped [] p q b = refl
pair_swapped (a ∷ xs) p q b =
    granted_to-cons a xs (p ∷ q ∷ []) b
    ∙ front_swapped (has_bit a.mask b && takes_part a) (principal_eq (principal_of a) everyone)
    (principal_eq (principal_of a) p) (principal_eq (principal_of a) q) (is_allow a.kind) _ _
    (pair_swapped xs p q b)
    ∙ sym (granted_to-cons a xs (q ∷ p ∷ []) b)

-- a principal that doesn't agree with all, where all before it do, doesn't agree with a later one
pub has_partner : (way : Direction) (xs ys : List Ace) (ps : List Principal) (z : ℕ) → z < length ps
    → ((k : ℕ) → k < length ps → OnAll (AlikeAlone way xs ys ps) k)
    → ((k : ℕ) → k < z → OnAll (AlikeWithAll way xs ys ps) k)
    → (OnAll (AlikeWithAll way xs ys ps) z → ⊥)
    → ((k : ℕ) → k < length (drop (z + 1) ps)
    → OnAll (AlikeWith way xs ys (slice_index_or ps z everyone) (drop (z + 1) ps)) k) → ⊥
has_partner way xs ys ps z lt alone before at later =
    at (λ b has. all_from _ ps everyone (λ j lj. here b has j lj (cases_order j z)))
  where
    s : Principal
    s = slice_index_or ps z everyone

    Wanted : ℕ → Principal → Type 0
    Wanted b q = may_overlap (slice_index_or ps z everyone) q ≡ true
        → AlikeAt way xs ys (slice_index_or ps z everyone ∷ q ∷ []) b

    here : (b : ℕ) → has_bit all_rights b ≡ true → (j : ℕ) → j < length ps → (j ≡ z) ⊎ ((j < z) ⊎ (z < j))
        → may_overlap (slice_index_or ps z everyone) (slice_index_or ps j everyone) ≡ true
        → AlikeAt way xs ys (slice_index_or ps z everyone ∷ slice_index_or ps j everyone ∷ []) b
    here b has j lj (inl e) o = subst
        (λ v. AlikeAt way xs ys (slice_index_or ps z everyone ∷ slice_index_or ps v everyone ∷ []) b) (sym e)
        (differ_moved way (pair_alone xs (slice_index_or ps z everyone) b)
        (pair_alone ys (slice_index_or ps z everyone) b) (alone z lt b has))
    here b has j lj (inr (inl less)) o =
        differ_moved way (pair_swapped xs (slice_index_or ps z everyone) (slice_index_or ps j everyone) b)
        (pair_swapped ys (slice_index_or ps z everyone) (slice_index_or ps j everyone) b)
        (all_at (λ q. may_overlap (slice_index_or ps j everyone) q ≡ true
        → AlikeAt way xs ys (slice_index_or ps j everyone ∷ q ∷ []) b) ps z everyone lt (before j less b has)
        (overlaps_back (slice_index_or ps z everyone) (slice_index_or ps j everyone) o))
    here b has j lj (inr (inr more)) o =
        let k : ℕ = j - (z + 1) in
        let place : z + 1 + k ≡ j = omega arith in
        let same : slice_index_or (drop (z + 1) ps) k everyone ≡ slice_index_or ps j everyone =
        get_or-drop (z + 1) ps k everyone ∙ ap (λ v. slice_index_or ps v everyone) place in
        subst (λ v. Wanted b v) same (later k (omega (arith, length-drop (z + 1) ps)) b has) o

-- if the lists grant alike to nobody, the first principal to whom alone they do not is the small set that is found
pub fast_single : (way : Direction) (xs ys : List Ace) (ps : List Principal) (v : ℕ) → GrantAlikeTo way xs ys []
    → IsLeast (OnAll (AlikeAlone way xs ys ps)) (length ps) v → v < length ps
    → FindsSet way xs ys (small_sets ps) (Some (slice_index_or ps v everyone ∷ []))
fast_single way xs ys ps v empty l lt =
    record {
      first = inl (
        empty,
        found_left way xs ys (singles ps) (principal_pairs ps) (slice_index_or ps v everyone ∷ [])
            (singles_first way xs ys ps v lt l.before (l.at lt)),
      );
    }

-- if the lists grant alike to nobody, to each principal alone and to each pair, no small set is found
pub fast_none : (way : Direction) (xs ys : List Ace) (ps : List Principal) (v z : ℕ) → GrantAlikeTo way xs ys []
    → IsLeast (OnAll (AlikeAlone way xs ys ps)) (length ps) v → length ps ≤ v
    → IsLeast (OnAll (AlikeWithAll way xs ys ps)) (length ps) z → length ps ≤ z
    → FindsSet way xs ys (small_sets ps) None
fast_none way xs ys ps v z empty l le m me =
    record {
      first = inl (
        empty,
        found_right way xs ys (singles ps) (principal_pairs ps) None
            (singles_none way xs ys ps (λ k lt. l.before k (omega arith))) (pairs_none way xs ys ps z me m.before),
      );
    }

-- if the lists grant alike to nobody and to each principal alone, the first differing pair is what is found
pub fast_pair : (way : Direction) (xs ys : List Ace) (ps : List Principal) (v z w : ℕ) → GrantAlikeTo way xs ys []
    → IsLeast (OnAll (AlikeAlone way xs ys ps)) (length ps) v → length ps ≤ v
    → IsLeast (OnAll (AlikeWithAll way xs ys ps)) (length ps) z → z < length ps
    → IsLeast (OnAll (AlikeWith way xs ys (slice_index_or ps z everyone) (drop (z + 1) ps))) (length (drop (z + 1) ps))
    w
    → w < length (drop (z + 1) ps)
    → FindsSet way xs ys (small_sets ps) (Some
    (slice_index_or ps z everyone ∷ slice_index_or (drop (z + 1) ps) w everyone ∷ []))
fast_pair way xs ys ps v z w empty l le m lt n lw =
    record {
      first = inl (
        empty,
        found_right way xs ys (singles ps) (principal_pairs ps) _
            (singles_none way xs ys ps (λ k lk. l.before k (omega arith)))
            (pairs_at way xs ys ps _ z lt m.before
            (partners_first way xs ys (slice_index_or ps z everyone) (drop (z + 1) ps) w lw n.before (n.at lw))),
      );
    }

-- the first member of a differing pair has a partner after it
pub fast_partner : (way : Direction) (xs ys : List Ace) (ps : List Principal) (v z w : ℕ)
    → IsLeast (OnAll (AlikeAlone way xs ys ps)) (length ps) v → length ps ≤ v
    → IsLeast (OnAll (AlikeWithAll way xs ys ps)) (length ps) z → z < length ps
    → IsLeast (OnAll (AlikeWith way xs ys (slice_index_or ps z everyone) (drop (z + 1) ps))) (length (drop (z + 1) ps))
    w
    → length (drop (z + 1) ps) ≤ w → ⊥
fast_partner way xs ys ps v z w l le m lt n lw =
    has_partner way xs ys ps z lt (λ k lk. l.before k (omega arith)) m.before (m.at lt)
    (λ k lk. n.before k (omega arith))

-- ---- two lists that are compared

-- the principal at the number of the first single one is the small set that is found
pub single_answer : (both : TwoLists) (p : Principal) (v : ℕ) → AreAlikeTo both [] → IsFirstSingle both v
    → v < length (all_mentioned both) → p ≡ principal_at both v → FindSet both (Some (p ∷ []))
single_answer both p v empty l lt is =
    subst (λ s. FindSet both (Some (s ∷ []))) (sym is)
    (fast_single both.direction both.first both.second (all_mentioned both) v empty l lt)

-- if the numbers show no single principal and no member of a pair, no small set is found
pub none_answer : (both : TwoLists) (v z : ℕ) → AreAlikeTo both [] → IsFirstSingle both v
    → length (all_mentioned both) ≤ v → IsFirstMember both z → z ≡ length (all_mentioned both) → FindSet both None
none_answer both v z empty l le m e =
    fast_none both.direction both.first both.second (all_mentioned both) v z empty l le m (omega arith)

-- the number of its first partner is that of a mentioned principal
pub partner_within : (both : TwoLists) {v z w : ℕ} → IsFirstSingle both v → length (all_mentioned both) ≤ v
    → IsFirstMember both z → z < length (all_mentioned both) → IsFirstPartner both z w
    → z + 1 + w < length (all_mentioned both)
partner_within both {v} {z} {w} l le m lt n = go (cases_lt w (length (later_than both z)))
  where
    go : (w < length (later_than both z)) ⊎ (length (later_than both z) ≤ w) → z + 1 + w < length (all_mentioned both)
    go (inl lw) = omega (arith, length-drop (z + 1) (all_mentioned both))
    go (inr past) = absurd
        (fast_partner both.direction both.first both.second (all_mentioned both) v z w l le m lt n past)

-- the principals at the numbers of the first member and its first partner are the small set that is found
pub pair_answer : (both : TwoLists) {p q : Principal} {v z w i : ℕ} → AreAlikeTo both [] → IsFirstSingle both v
    → length (all_mentioned both) ≤ v → IsFirstMember both z → z < length (all_mentioned both)
    → IsFirstPartner both z w → i ≡ z + 1 + w → p ≡ principal_at both z → q ≡ principal_at both i
    → FindSet both (Some (p ∷ q ∷ []))
pair_answer both {p} {q} {v} {z} {w} empty l le m lt n at pe qe =
    subst (λ s. FindSet both (Some (s ∷ q ∷ []))) (sym pe)
    (subst (λ s. FindSet both (Some (principal_at both z ∷ s ∷ []))) second
    (fast_pair both.direction both.first both.second (all_mentioned both) v z w empty l le m lt n
    (omega (arith, inside, length-drop (z + 1) (all_mentioned both)))))
  where
    inside : z + 1 + w < length (all_mentioned both)
    inside = partner_within both l le m lt n

    second : slice_index_or (later_than both z) w everyone ≡ q
    second =
        get_or-drop (z + 1) (all_mentioned both) w everyone
        ∙ ap (λ k. slice_index_or (all_mentioned both) k everyone) (sym at) ∙ sym qe
