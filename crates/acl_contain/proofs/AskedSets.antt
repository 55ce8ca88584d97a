-- Which principals match in the questions of a list, and how many questions there are.
use Rattle.acl_normal.proofs.Common.{Ace, AllByRecursion, AllZip, List, Principal, Situation, [], append-nil, ap, arith, everyone, false, is_among, is_mentioning, length, length-append, length-map, longest, map, matches, may_overlap, mentioned, mentioned_in, partners, principal_eq, principal_name, principal_of, principal_pairs, singles, sym, small_sets, small_situation, subst, suc, true, user, ℕ, ◌*◌, ◌++◌, ◌+◌, ◌<◌, ◌||◌, ◌∙◌, ◌∷◌, ◌≡◌, ◌≤◌}
use Rattle.std.proofs.Math.Nat.{mul-suc, suc-mul}
use Rattle.std.proofs.lemmas.Bool.{cond_both}
use Rattle.acl_normal.proofs.Each.{all_append, all_weaker}
use Rattle.acl_normal.proofs.Exports.{all_in}
use Rattle.acl_normal.proofs.unique.Names.{principal_eq_same}
use Rattle.acl_normal.proofs.unique.Realised.{AreShort, HasOneUser, one_user, small_matches}
use Rattle.acl_contain.proofs.Enumeration.{partners_few, sets_counted}
use Rattle.acl_contain.specs.Questions.{AskEachSet, AskFew, questions_of}

-- a set of principals with names below n bytes, of whom at most one is a user
record IsAsked (n : ℕ) (set : List Principal) : Type 0 where
  short : AreShort n set
  one : HasOneUser set

-- one principal has at most one user name
alone : (p : Principal) → HasOneUser (p ∷ [])
alone p a b h i =
    let first : principal_eq (user a) p ≡ true = grind (arith, h) in
    let second : principal_eq (user b) p ≡ true = grind (arith, i) in
    ap principal_name (principal_eq_same (user a) p first)
    ∙ ap principal_name (sym (principal_eq_same (user b) p second))

-- the sets of one principal
singles_asked : (n : ℕ) (ps : List Principal) → AreShort n ps → AllByRecursion (IsAsked n) (singles ps)
singles_asked n [] h = tt
singles_asked n (p ∷ ps) h = (record { short = (h.0, tt); one = alone p }, singles_asked n ps h.1)

-- the pairs of a principal and some others
partners_asked : (n : ℕ) (p : Principal) (ps : List Principal) → length (principal_name p) < n → AreShort n ps
    → AllByRecursion (IsAsked n) (partners p ps)
partners_asked n p [] s h = tt
partners_asked n p (q ∷ ps) s h = cond_both (may_overlap p q) _ _ (AllByRecursion (IsAsked n))
    (λ e. (record { short = (s, (h.0, tt)); one = one_user p q e }, partners_asked n p ps s h.1))
    (λ e. partners_asked n p ps s h.1)

-- the pairs
pairs_asked : (n : ℕ) (ps : List Principal) → AreShort n ps → AllByRecursion (IsAsked n) (principal_pairs ps)
pairs_asked n [] h = tt
pairs_asked n (p ∷ ps) h = all_append (IsAsked n) (partners p ps) (principal_pairs ps)
    (partners_asked n p ps h.0 h.1) (pairs_asked n ps h.1)

-- all small sets
sets_asked : (n : ℕ) (ps : List Principal) → AreShort n ps → AllByRecursion (IsAsked n) (small_sets ps)
sets_asked n ps h = (
  record { short = tt; one = λ a b i j. cc },
  all_append (IsAsked n) (singles ps) (principal_pairs ps) (singles_asked n ps h) (pairs_asked n ps h),
)

-- each name is shorter than what is longer than the longest
all_short : (n : ℕ) (ps : List Principal) → longest ps < n → AreShort n ps
all_short n [] h = tt
all_short n (p ∷ ps) h = (omega (arith, h), all_short n ps (omega (arith, h)))

-- an ACE that mentions a principal is not of everyone
mentions_others : (xs : List Ace)
    → AllByRecursion (λ a. is_mentioning a ≡ true → principal_eq (principal_of a) everyone ≡ false) xs
mentions_others [] = tt
mentions_others (a ∷ xs) = (λ m. grind arith, mentions_others xs)

-- a mentioned principal has a short name, and is not everyone
record IsOther (n : ℕ) (p : Principal) : Type 0 where
  short : length (principal_name p) < n
  other : principal_eq p everyone ≡ false

-- both hold of each
both_hold : (n : ℕ) (ps : List Principal) → AreShort n ps → AllByRecursion (λ p. principal_eq p everyone ≡ false) ps
    → AllByRecursion (IsOther n) ps
both_hold n [] h i = tt
both_hold n (p ∷ ps) h i = (record { short = h.0; other = i.0 }, both_hold n ps h.1 i.1)

-- what holds of each small situation and its set holds in pairs
zip_situations : (R : Situation → List Principal → Type 0) (n : ℕ) (sets : List (List Principal))
    → AllByRecursion (λ set. R (small_situation n set) set) sets → AllZip R (map (small_situation n) sets) sets
zip_situations R n [] h = tt
zip_situations R n (set ∷ sets) h = (h.0, zip_situations R n sets h.1)

-- of some principals with short names, those of the set match in its small situation
matched : (n : ℕ) (ps set : List Principal) → AllByRecursion (IsOther n) ps → IsAsked n set → 0 < n
    → AllByRecursion (λ p. matches (small_situation n set) p ≡ is_among p set) ps
matched n ps set h asked more =
    all_weaker (IsOther n) (λ p. matches (small_situation n set) p ≡ is_among p set) ps
    (λ p o. small_matches n set asked.short asked.one more p o.short ∙ ap (λ v. v || is_among p set) o.other) h

-- each small set of the mentioned principals has a question
pub each_asked : AskEachSet
each_asked xs = subst (λ v. AllZip (λ s set. AllByRecursion (λ p. matches s p ≡ is_among p set) v) (questions_of xs)
    (small_sets v)) (ap mentioned_in (append-nil xs)) all
  where
    whole : List Principal
    whole = mentioned xs []

    n : ℕ
    n = longest whole + 1

    short : AreShort n whole
    short = all_short n whole (omega arith)

    others : AllByRecursion (IsOther n) whole
    others = both_hold n whole short (all_in (λ p. principal_eq p everyone ≡ false) (xs ++ [])
        (mentions_others (xs ++ [])))

    all : AllZip (λ s set. AllByRecursion (λ p. matches s p ≡ is_among p set) whole) (questions_of xs)
        (small_sets whole)
    all = zip_situations (λ s set. AllByRecursion (λ p. matches s p ≡ is_among p set) whole) n (small_sets whole)
        (all_weaker (IsAsked n)
        (λ set. AllByRecursion (λ p. matches (small_situation n set) p ≡ is_among p set) whole) (small_sets whole)
        (λ set asked. matched n whole set others asked (omega arith)) (sets_asked n whole short))

-- how many pairs there are
pairs_few : (ps : List Principal) → 2 * length (principal_pairs ps) + length ps ≤ length ps * length ps
pairs_few [] = omega arith
pairs_few (p ∷ ps) =
    let here = partners_few p ps in
    let later = pairs_few ps in
    let both = length-append (partners p ps) (principal_pairs ps) in
    let square : suc (length ps) * suc (length ps) ≡ length ps * length ps + length ps + suc (length ps) =
    mul-suc (suc (length ps)) (length ps) ∙ ap (λ v. v + suc (length ps)) (suc-mul (length ps) (length ps)) in
    omega (arith, here, later, both, square)

-- a product with one more
mul-add_one : (n : ℕ) → n * (n + 1) ≡ n * n + n
mul-add_one n = let next : n + 1 ≡ suc n = omega arith in ap (λ v. n * v) next ∙ mul-suc n n

-- how many questions there are
pub few_asked : AskFew
few_asked xs = subst (λ v. 2 * length (questions_of xs) ≤ 2 + length v * (length v + 1))
    (ap mentioned_in (append-nil xs)) count
  where
    whole : List Principal
    whole = mentioned xs []

    count : 2 * length (questions_of xs) ≤ 2 + length whole * (length whole + 1)
    count =
        let few = pairs_few whole in
        let sets = sets_counted whole in
        let same = length-map (small_sets whole) (small_situation (longest whole + 1)) in
        let square : length whole * (length whole + 1) ≡ length whole * length whole + length whole =
        mul-add_one (length whole) in
        omega (arith, few, sets, same, square)
