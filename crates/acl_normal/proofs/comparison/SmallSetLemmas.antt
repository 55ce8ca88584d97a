-- The small situations of two lists decide whether the lists differ in any situation.
use Rattle.acl_normal.proofs.Common.{[], Ace, all_rights, AllByRecursion, ap, arith, Bool, column, Deny, everyone, false, false≢true, FindsFirst, GrantAlikeTo, has_bit, HasName, HasNames, inl, inr, is_allow, is_among, is_granted_to, IsRisingSet, IsSituation, length, Less, List, longest, map, map-append, matches, may_overlap, mentioned, None, or_cases, or_left, principal_pairs, partners, Principal, principal_cmp, principal_eq, principal_name, refl, singles, Situation, small_sets, small_situation, Some, subst, sym, true, unwrap_or, user, ℕ, ⊎_elim, ◌++◌, ◌+◌, ◌<◌, ◌^◌, ◌||◌, ◌↔◌, ◌∙◌, ◌∷◌, ◌≡◌, ◌⊎◌}
use Rattle.acl_eval.specs.Grant.{grants_bit}
use Rattle.std.proofs.lemmas.Bool.{cond_both}
use Rattle.acl_normal.proofs.Each.{all_append, all_left, all_weaker, at_split, all_right}
use Rattle.acl_normal.proofs.comparison.Differing.{AlikeEverywhere, AlikeIn, FirstApart, same_everywhere}
use Rattle.acl_normal.proofs.comparison.Directions.{differ_moved, never_itself}
use Rattle.acl_normal.proofs.comparison.MentionedPrincipals.{IsOneOf, column_is_short, first_has, mentioned_named, mentioned_others, mentioned_rising, one_is_short, second_has}
use Rattle.acl_normal.proofs.unique.Names.{overlaps_itself, principal_eq_same, longest_name}
use Rattle.acl_normal.proofs.unique.Realised.{HasOneUser, first_kind_alike, one_user, small_is_situation, small_matches}
use Rattle.acl_normal.proofs.unique.Small.{IsSmallSet, none, one, small_relate, two}
use Rattle.acl_normal.specs.SmallSets.{AnswersSuffice, GrantAlike, SmallSituationsSuffice, small_situations, strange_length}
use Rattle.acl_normal.specs.internal.comparison.Directions.{differ_in}
use Rattle.acl_normal.specs.internal.comparison.SetSearch.{AlikeAt}
use Rattle.acl_normal.specs.declared.comparison.direction.Direction.{Direction}
use Rattle.acl_normal.specs.declared.comparison.direction.Direction.TheVariants.{Either}
use Rattle.acl_normal.proofs.comparison.Ordered.{below_one, not_below_itself, not_both_below}

-- what holds of mapped elements holds of the elements by their map
pub all_mapped : {X Y : Type 0} (P : Y → Type 0) (f : X → Y) (xs : List X) → AllByRecursion P (map f xs)
    → AllByRecursion (λ x. P (f x)) xs
all_mapped P f [] h = tt
all_mapped P f (x ∷ xs) h = (h.0, all_mapped P f xs h.1)

-- what follows from two facts of each element holds of each mapped element
pub all_map_by : {X Y : Type 0} (S Q : X → Type 0) (P : Y → Type 0) (f : X → Y) (xs : List X)
    → ((x : X) → S x → Q x → P (f x)) → AllByRecursion S xs → AllByRecursion Q xs → AllByRecursion P (map f xs)
all_map_by S Q P f [] g h i = tt
all_map_by S Q P f (x ∷ xs) g h i = (g x h.0 i.0, all_map_by S Q P f xs g h.1 i.1)

-- each set of the enumeration is small

-- the sets of one principal each are small
pub all_singles : (P : Principal → Type 0) (ps : List Principal) → AllByRecursion P ps
    → AllByRecursion (λ p. principal_eq p everyone ≡ false) ps → AllByRecursion (IsSmallSet P) (singles ps)
all_singles P [] h o = tt
all_singles P (p ∷ ps) h o = (one p h.0 o.0, all_singles P ps h.1 o.1)

-- the sets of a principal and a later one that may overlap are small
pub all_partners : (P : Principal → Type 0) (p : Principal) (ps : List Principal) → P p
    → principal_eq p everyone ≡ false → AllByRecursion P ps → AllByRecursion (λ q. principal_eq q everyone ≡ false) ps
    → AllByRecursion (λ q. principal_cmp p q ≡ Less) ps → AllByRecursion (IsSmallSet P) (partners p ps)
all_partners P p [] hp op h o below = tt
all_partners P p (q ∷ ps) hp op h o below =
    let later = all_partners P p ps hp op h.1 o.1 below.1 in
    cond_both (may_overlap p q) _ _ (AllByRecursion (IsSmallSet P))
    (λ e. (two p q hp h.0 op o.0 e below.0, later)) (λ e. later)

-- the sets of two rising principals that may overlap are small
pub all_pairs : (P : Principal → Type 0) (ps : List Principal) → AllByRecursion P ps
    → AllByRecursion (λ p. principal_eq p everyone ≡ false) ps → IsRisingSet ps
    → AllByRecursion (IsSmallSet P) (principal_pairs ps)
all_pairs P [] h o r = tt
all_pairs P (p ∷ ps) h o r = all_append (IsSmallSet P) (partners p ps) (principal_pairs ps)
    (all_partners P p ps h.0 o.0 h.1 o.1 r.0) (all_pairs P ps h.1 o.1 r.1)

-- each of the small sets of rising principals has at most two of them, without everyone
pub all_small : (P : Principal → Type 0) (ps : List Principal) → AllByRecursion P ps
    → AllByRecursion (λ p. principal_eq p everyone ≡ false) ps → IsRisingSet ps
    → AllByRecursion (IsSmallSet P) (small_sets ps)
all_small P ps h o r = (
  none,
  all_append (IsSmallSet P) (singles ps) (principal_pairs ps) (all_singles P ps h o)
      (all_pairs P ps h o r),
)

-- each small set is one of the list

-- what holds of each set of one principal holds of each principal alone
of_singles : (Q : List Principal → Type 0) (ps : List Principal) → AllByRecursion Q (singles ps)
    → AllByRecursion (λ p. Q (p ∷ [])) ps
of_singles Q [] h = tt
of_singles Q (p ∷ ps) h = (h.0, of_singles Q ps h.1)

-- what holds for the pairs of a principal holds for the principal with each later one that may overlap
of_partners : (Q : List Principal → Type 0) (p : Principal) (ps : List Principal) → AllByRecursion Q (partners p ps)
    → AllByRecursion (λ q. may_overlap p q ≡ true → Q (p ∷ q ∷ [])) ps
of_partners Q p [] h = tt
of_partners Q p (x ∷ ps) h = go (may_overlap p x) refl (of_partners Q p ps)
  where
    go : (b : Bool) → may_overlap p x ≡ b
        → (AllByRecursion Q (partners p ps) → AllByRecursion (λ q. may_overlap p q ≡ true → Q (p ∷ q ∷ [])) ps)
        → AllByRecursion (λ q. may_overlap p q ≡ true → Q (p ∷ q ∷ [])) (x ∷ ps)
    go true e ih = let here = rw e at h in (λ o. here.0, ih here.1)
    go false e ih = (λ o. absurd (false≢true (sym e ∙ o)), ih (rw e at h))

-- what holds of each set of two principals holds of each two that may overlap, with the lesser first
pub at_pair : (Q : List Principal → Type 0) (p q : Principal) (ps : List Principal) → IsRisingSet ps
    → AllByRecursion Q (principal_pairs ps) → is_among p ps ≡ true → is_among q ps ≡ true → may_overlap p q ≡ true
    → principal_cmp p q ≡ Less → Q (p ∷ q ∷ [])
at_pair Q p q [] r h i j o l = cc
at_pair Q p q (x ∷ ps) r h i j o l =
    go (or_cases (principal_eq p x) (is_among p ps) i) (or_cases (principal_eq q x) (is_among q ps) j)
    (at_pair Q p q ps r.1 (all_right Q (partners x ps) (principal_pairs ps) h))
  where
    go : (principal_eq p x ≡ true) ⊎ (is_among p ps ≡ true) → (principal_eq q x ≡ true) ⊎ (is_among q ps ≡ true)
        → (is_among p ps ≡ true → is_among q ps ≡ true → may_overlap p q ≡ true → principal_cmp p q ≡ Less
        → Q (p ∷ q ∷ [])) → Q (p ∷ q ∷ [])
    go (inl e) (inl f) ih = absurd
        (not_below_itself p (subst (λ v. principal_cmp p v ≡ Less)
        (principal_eq_same q x f ∙ sym (principal_eq_same p x e)) l))
    go (inl e) (inr f) ih =
        let same : p ≡ x = principal_eq_same p x e in
        let here : Q (x ∷ q ∷ []) = below_one (λ v. may_overlap x v ≡ true → Q (x ∷ v ∷ [])) ps q
        (of_partners Q x ps (all_left Q (partners x ps) (principal_pairs ps) h)) f
        (subst (λ v. may_overlap v q ≡ true) same o) in
        subst (λ v. Q (v ∷ q ∷ [])) (sym same) here
    go (inr e) (inl f) ih = absurd
        (not_both_below p q l (subst (λ v. principal_cmp v p ≡ Less) (sym (principal_eq_same q x f))
        (below_one (λ v. principal_cmp x v ≡ Less) ps p r.0 e)))
    go (inr e) (inr f) ih = ih e f o l

-- a principal that is one of these or everyone, and not everyone, is one of these
pub among_others : (ps : List Principal) (p : Principal) → IsOneOf ps p → principal_eq p everyone ≡ false
    → is_among p ps ≡ true
among_others ps p h e = subst (λ t. (t || is_among p ps) ≡ true) e h

-- what holds of each set of the list holds at each small set
pub at_small : (Q : List Principal → Type 0) (ps set : List Principal) → IsRisingSet ps
    → AllByRecursion Q (small_sets ps) → IsSmallSet (IsOneOf ps) set → Q set
at_small Q ps _ r h none = h.0
at_small Q ps _ r h (one p m e) = below_one (λ v. Q (v ∷ [])) ps p
    (of_singles Q ps (all_left Q (singles ps) (principal_pairs ps) h.1)) (among_others ps p m e)
at_small Q ps _ r h (two p q m n e f o l) =
    at_pair Q p q ps r (all_right Q (singles ps) (principal_pairs ps) h.1) (among_others ps p m e)
    (among_others ps q n f) o l

-- what a small set is

-- what holds of the principals of a small set holds of each of them
pub small_each : (P : Principal → Type 0) (set : List Principal) → IsSmallSet P set → AllByRecursion P set
small_each P _ none = tt
small_each P _ (one p m e) = (m, tt)
small_each P _ (two p q m k e f o l) = (m, (k, tt))

-- a small set has at most one user name
pub small_one_user : (P : Principal → Type 0) (set : List Principal) → IsSmallSet P set → HasOneUser set
small_one_user P _ none a b h i = cc
small_one_user P _ (one p m e) a b h i =
    one_user p p (overlaps_itself p) a b (or_left _ _ (one_of (user a) h)) (or_left _ _ (one_of (user b) i))
  where
    one_of : (r : Principal) → is_among r (p ∷ []) ≡ true → principal_eq r p ≡ true
    one_of r h = ⊎_elim (λ e. e) (λ e. absurd (false≢true e)) (or_cases (principal_eq r p) false h)
small_one_user P _ (two p q m k e f o l) a b h i = one_user p q o a b h i

-- if a number is more than the longest name, each name is shorter
pub all_short : (ps : List Principal) (n : ℕ) → longest ps < n → AllByRecursion (λ p. length (principal_name p) < n) ps
all_short [] n h = tt
all_short (p ∷ ps) n h = (omega arith, all_short ps n (omega arith))

-- in the small situation of a set, a list grants what it grants to the set
pub situation_is_set : (n : ℕ) (set : List Principal) (xs : List Ace) (b : ℕ) → 0 < n
    → IsSmallSet (λ p. length (principal_name p) < n) set → longest_name (column xs b) < n
    → grants_bit xs (small_situation n set) b ≡ is_granted_to xs set b
situation_is_set n set xs b pos small short =
    ap (λ o. is_allow (unwrap_or o Deny))
    (first_kind_alike (matches (small_situation n set)) (λ r. is_among r (everyone ∷ set)) (column xs b) n
    (λ r l. small_matches n set (small_each _ set small) (small_one_user _ set small) pos r l) short)

-- what relates the answers of two lists, each for a right, in each of their small situations relates them in every
-- situation
answers_relate : (R : Bool → Bool → Type 0) (xs ys : List Ace) (b k : ℕ)
    → AllByRecursion (λ s. R (grants_bit xs s b) (grants_bit ys s k)) (small_situations xs ys)
    → (s : Situation) → R (grants_bit xs s b) (grants_bit ys s k)
answers_relate R xs ys b k all =
    let ms = mentioned xs ys in
    let n : ℕ = longest ms + 1 in
    let each : AllByRecursion (λ set. R (grants_bit xs (small_situation n set) b)
    (grants_bit ys (small_situation n set) k)) (small_sets ms) =
    all_mapped (λ s. R (grants_bit xs s b) (grants_bit ys s k)) (small_situation n) (small_sets ms) all in
    small_relate (λ x y. R (is_allow x) (is_allow y)) (IsOneOf ms) n (column xs b) (column ys k) refl
    (first_has b xs ys) (second_has k xs ys) (omega arith)
    (column_is_short ms (column xs b) (first_has b xs ys)) (column_is_short ms (column ys k) (second_has k xs ys))
    (λ p h. one_is_short ms p h)
    (λ set small. at_small (λ v. R (grants_bit xs (small_situation n v) b) (grants_bit ys (small_situation n v) k)) ms
    set
    (mentioned_rising xs ys) each small)

-- a test of two answers that passes in each small situation passes in every situation
pub answers_suffice : AnswersSuffice
answers_suffice test xs ys = answers_relate (λ x y. test x y ≡ true) xs ys

-- lists that differ in no small situation differ in none
pub alike_everywhere : (way : Direction) (xs ys : List Ace)
    → AllByRecursion (AlikeIn way xs ys) (small_situations xs ys) → AlikeEverywhere way xs ys
alike_everywhere way xs ys all s valid b has =
    answers_relate (λ x y. differ_in way x y ≡ false) xs ys b b
    (all_weaker (AlikeIn way xs ys) (λ t. differ_in way (grants_bit xs t b) (grants_bit ys t b) ≡ false)
    (small_situations xs ys) (λ t alike. alike b has) all) s

-- lists that grant alike in each small situation grant the same
pub small_situations_suffice : SmallSituationsSuffice
small_situations_suffice xs ys all = same_everywhere xs ys
    (alike_everywhere Either xs ys (all_weaker (GrantAlike xs ys) (AlikeIn Either xs ys) (small_situations xs ys)
    (λ s alike b has. differ_moved Either (alike b has) refl (never_itself Either (grants_bit ys s b))) all))

-- in the small situation of a set, both lists grant what they grant to the set
both_situations : (xs ys : List Ace) (set : List Principal) (b : ℕ)
    → IsSmallSet (λ p. length (principal_name p) < strange_length xs ys) set
    → (grants_bit xs (small_situation (strange_length xs ys) set) b ≡ is_granted_to xs set b)
    × (grants_bit ys (small_situation (strange_length xs ys) set) b ≡ is_granted_to ys set b)
both_situations xs ys set b small = (
  situation_is_set (strange_length xs ys) set xs b (omega arith) small
      (column_is_short (mentioned xs ys) (column xs b) (first_has b xs ys)),
  situation_is_set (strange_length xs ys) set ys b (omega arith) small
      (column_is_short (mentioned xs ys) (column ys b) (second_has b xs ys)),
)

-- the lists agree in the small situation of a set if and only if they agree at the set
pub alike_in_situation : (way : Direction) (xs ys : List Ace) (set : List Principal)
    → IsSmallSet (λ p. length (principal_name p) < strange_length xs ys) set
    → AlikeIn way xs ys (small_situation (strange_length xs ys) set) ↔ GrantAlikeTo way xs ys set
alike_in_situation way xs ys set small = (
  λ h b i. differ_moved way (sym (both_situations xs ys set b small).0) (sym (both_situations xs ys set b small).1)
      (h b i),
  λ h b i. differ_moved way (both_situations xs ys set b small).0 (both_situations xs ys set b small).1 (h b i),
)

-- the small sets of the mentioned principals have names shorter than the strange ones
pub sets_short : (xs ys : List Ace)
    → AllByRecursion (IsSmallSet (λ p. length (principal_name p) < strange_length xs ys)) (small_sets (mentioned xs ys))
sets_short xs ys = all_small _ (mentioned xs ys) (all_short (mentioned xs ys) (strange_length xs ys) (omega arith))
    (mentioned_others xs ys) (mentioned_rising xs ys)

-- the small sets of the mentioned principals have names, if the lists have names
pub sets_named : (xs ys : List Ace) → HasNames xs → HasNames ys
    → AllByRecursion (IsSmallSet HasName) (small_sets (mentioned xs ys))
sets_named xs ys h i = all_small HasName (mentioned xs ys) (mentioned_named xs ys h i) (mentioned_others xs ys)
    (mentioned_rising xs ys)

-- the first set at which the lists differ, with those before it
pub record FirstSet (way : Direction) (xs ys : List Ace) (sets : List (List Principal)) (set : List Principal) :
    Type 0 where
  pub before : List (List Principal)
  pub after : List (List Principal)
  pub is : sets ≡ before ++ set ∷ after
  pub alike : AllByRecursion (GrantAlikeTo way xs ys) before
  pub differs : GrantAlikeTo way xs ys set → ⊥

-- the set that is found is one of the sets, and the lists grant alike at those before it
pub first_set : (way : Direction) (xs ys : List Ace) (sets : List (List Principal)) (set : List Principal)
    → FindsFirst way xs ys sets (Some set) → FirstSet way xs ys sets set
first_set way xs ys [] set h = cc
first_set way xs ys (ps ∷ sets) set (inl h) =
    let s = first_set way xs ys sets set h.1 in
    record {
      before = ps ∷ s.before;
      after = s.after;
      is = ap (λ v. ps ∷ v) s.is;
      alike = (h.0, s.alike);
      differs =
          s.differs;
    }
first_set way xs ys (ps ∷ sets) set (inr h) =
    let same : ps ≡ set = cc in
    record {
      before = [];
      after = sets;
      is = ap (λ v. v ∷ sets) same;
      alike = tt;
      differs =
          subst (λ v. GrantAlikeTo way xs ys v → ⊥) same h.0;
    }

-- if no set is found, the lists grant alike at all sets
pub none_differs : (way : Direction) (xs ys : List Ace) (sets : List (List Principal)) → FindsFirst way xs ys sets None
    → AllByRecursion (GrantAlikeTo way xs ys) sets
none_differs way xs ys [] h = tt
none_differs way xs ys (ps ∷ sets) (inl h) = (h.0, none_differs way xs ys sets h.1)
none_differs way xs ys (ps ∷ sets) (inr h) = absurd (cc)

-- if no small set of the mentioned principals is found, the lists differ in no situation
pub none_then_alike : (way : Direction) (xs ys : List Ace) → FindsFirst way xs ys (small_sets (mentioned xs ys)) None
    → AlikeEverywhere way xs ys
none_then_alike way xs ys h =
    alike_everywhere way xs ys
    (all_map_by (IsSmallSet (λ p. length (principal_name p) < strange_length xs ys)) (GrantAlikeTo way xs ys)
    (AlikeIn way xs ys) (small_situation (strange_length xs ys)) (small_sets (mentioned xs ys))
    (λ set small alike. (alike_in_situation way xs ys set small).1 alike) (sets_short xs ys)
    (none_differs way xs ys (small_sets (mentioned xs ys)) h))

-- the small situation of the set that is found first has names, if the lists have names
pub found_is_situation : (way : Direction) (xs ys : List Ace) (set : List Principal) → HasNames xs → HasNames ys
    → FindsFirst way xs ys (small_sets (mentioned xs ys)) (Some set)
    → IsSituation (small_situation (strange_length xs ys) set)
found_is_situation way xs ys set nx ny h =
    let s = first_set way xs ys (small_sets (mentioned xs ys)) set h in
    let named = at_split (IsSmallSet HasName) (small_sets (mentioned xs ys)) s.before set s.after s.is
    (sets_named xs ys nx ny) in
    small_is_situation (strange_length xs ys) set (omega arith) (small_each HasName set named)

-- the first set and the lowest bit on which the lists differ there are where they first differ
pub first_apart : (way : Direction) (xs ys : List Ace) (set : List Principal) (bit mask : ℕ) (first : Bool)
    → FindsFirst way xs ys (small_sets (mentioned xs ys)) (Some set) → mask ≡ 2 ^ bit → has_bit all_rights bit ≡ true
    → differ_in way (is_granted_to xs set bit) (is_granted_to ys set bit) ≡ true
    → ((b : ℕ) → b < bit → has_bit all_rights b ≡ true → AlikeAt way xs ys set b)
    → first ≡ is_granted_to xs set bit → FirstApart way xs ys (small_situation (strange_length xs ys) set) mask first
first_apart way xs ys set bit mask first h is_power sixteen differs lowest grants =
    let sets = small_sets (mentioned xs ys) in
    let n = strange_length xs ys in
    let s = first_set way xs ys sets set h in
    let small = at_split (IsSmallSet (λ p. length (principal_name p) < n)) sets s.before set s.after s.is
    (sets_short xs ys) in
    let earlier : AllByRecursion (IsSmallSet (λ p. length (principal_name p) < n)) s.before =
    all_left _ s.before (set ∷ s.after)
    (subst (λ v. AllByRecursion (IsSmallSet (λ p. length (principal_name p) < n)) v) s.is (sets_short xs ys)) in
    let at = λ (b : ℕ). both_situations xs ys set b small in
    record {
      before = map (small_situation n) s.before;
      after = map (small_situation n) s.after;
      place = ap (map (small_situation n)) s.is ∙ map-append (small_situation n) s.before (set ∷ s.after);
      alike_before = all_map_by (IsSmallSet (λ p. length (principal_name p) < n)) (GrantAlikeTo way xs ys)
          (AlikeIn way xs ys) (small_situation n) s.before (λ v k alike. (alike_in_situation way xs ys v k).1 alike)
          earlier s.alike;
      bit = bit;
      one_bit = is_power;
      of_rights = sixteen;
      differs = differ_moved way (at bit).0 (at bit).1 differs;
      lowest = λ b l i. differ_moved way (at b).0 (at b).1 (lowest b l i);
      grants = grants ∙ sym (at bit).0;
    }
