-- The questions of a list decide what it grants.
use Rattle.acl_normal.proofs.Common.{Ace, All, AllByRecursion, IsAccepted, full, Bool, HasName, HasNames, IsSituation, IsTrue, arith, may_overlap, partners, principal_pairs, singles, List, Principal, Situation, [], append-nil, ap, false, is_among, is_mentioning, longest, map, mentioned, mentioned_in, not, principal_of, refl, same_answers, small_sets, small_situation, subst, sym, true, ℕ, ◌++◌, ◌+◌, ◌∙◌, ◌∷◌, ◌≡◌}
use Rattle.acl_eval.proofs.Same.{by_bits}
use Rattle.acl_eval.specs.Grant.{grants_bit}
use Rattle.acl_normal.proofs.Each.{all_append, all_left, all_weaker, cond_holds}
use Rattle.acl_normal.proofs.Exports.{all_in, among_mentioned, below_one, mentioned_named, mentioned_rising, rising_in, rising_same}
use Rattle.acl_normal.proofs.unique.Realised.{AllNamed, small_is_situation}
use Rattle.acl_normal.specs.SmallSets.{AnswersSuffice, small_situations}
use Rattle.acl_contain.specs.Questions.{AreAnsweredAlike, MentionsNoOther, QuestionsSuffice, asked_in, questions_of}
use Rattle.acl_contain.specs.declared.asking.Question.{Question}
use Rattle.acl_normal.proofs.unique.Accepted.{accepted_names}
use Rattle.std.proofs.lemmas.List.Elements.{All-from_recursion}

-- if the second list mentions no other principals, both lists mention those of the first
mentioned_same : (xs ys : List Ace) → MentionsNoOther xs ys → mentioned xs ys ≡ mentioned xs []
mentioned_same xs ys h = rising_same both own (mentioned_rising xs ys) (rising_in xs)
    (λ s. same_answers (is_among s both) (is_among s own)
    (λ i. below_one (λ p. is_among p own ≡ true) both s (all_in (λ p. is_among p own ≡ true) (xs ++ ys) within) i)
    (λ i. below_one (λ p. is_among p both ≡ true) own s (all_in (λ p. is_among p both ≡ true) xs over) i))
    ∙ ap mentioned_in (sym (append-nil xs))
  where
    both : List Principal
    both = mentioned xs ys

    own : List Principal
    own = mentioned_in xs

    within : AllByRecursion (λ a. is_mentioning a ≡ true → is_among (principal_of a) own ≡ true) (xs ++ ys)
    within = all_append (λ a. is_mentioning a ≡ true → is_among (principal_of a) own ≡ true) xs ys
        (among_mentioned xs)
        (all_weaker (λ a. is_mentioning a ≡ true → is_among (principal_of a) (mentioned_in ys) ≡ true)
        (λ a. is_mentioning a ≡ true → is_among (principal_of a) own ≡ true) ys
        (λ a i m. below_one (λ p. is_among p own ≡ true) (mentioned_in ys) (principal_of a) h (i m))
        (among_mentioned ys))

    over : AllByRecursion (λ a. is_mentioning a ≡ true → is_among (principal_of a) both ≡ true) xs
    over = all_left (λ a. is_mentioning a ≡ true → is_among (principal_of a) both ≡ true) xs ys
        (among_mentioned (xs ++ ys))

-- so both have the small situations of the first
situations_same : (xs ys : List Ace) → MentionsNoOther xs ys → questions_of xs ≡ small_situations xs ys
situations_same xs ys h =
    ap (λ ps. map (small_situation (longest ps + 1)) (small_sets ps)) (sym (mentioned_same xs ys h))

-- two answers are the same
abbrev is_same : Bool → Bool → Bool
is_same true b = b
is_same false b = not b

-- answers that are equal are the same
passes_same : (a b : Bool) → a ≡ b → is_same a b ≡ true
passes_same true true h = refl
passes_same true false h = cc
passes_same false true h = cc
passes_same false false h = refl

-- answers that are the same are equal
same_passed : (a b : Bool) → is_same a b ≡ true → a ≡ b
same_passed true true h = refl
same_passed true false h = cc
same_passed false true h = cc
same_passed false false h = refl

-- lists that answer each question of the one alike grant the same
pub questions_decide : AnswersSuffice → QuestionsSuffice
questions_decide any rights xs ys within alike = (by_bits rights xs ys).1 (λ s valid bit has.
    same_passed (grants_bit xs s bit) (grants_bit ys s bit) (any is_same xs ys bit bit
    (subst (AllByRecursion (λ q. IsTrue (is_same (grants_bit xs q bit) (grants_bit ys q bit))))
    (situations_same xs ys within)
    (all_weaker (AreAnsweredAlike rights xs ys) (λ q. IsTrue (is_same (grants_bit xs q bit) (grants_bit ys q bit)))
    (questions_of xs) (λ q h. passes_same (grants_bit xs q bit) (grants_bit ys q bit) (h bit has)) alike)) s))

-- each is named, where the principals are
each_single_named : (ps : List Principal) → AllNamed ps → AllByRecursion AllNamed (singles ps)
each_single_named [] h = tt
each_single_named (p ∷ ps) h = ((h.0, tt), each_single_named ps h.1)

-- so are the pairs of a principal and some others
partners_named : (p : Principal) (ps : List Principal) → HasName p → AllNamed ps
    → AllByRecursion AllNamed (partners p ps)
partners_named p [] n h = tt
partners_named p (q ∷ ps) n h = cond_holds (AllByRecursion AllNamed) (may_overlap p q) _ _
    ((n, (h.0, tt)), partners_named p ps n h.1) (partners_named p ps n h.1)

-- so are the pairs
pairs_named : (ps : List Principal) → AllNamed ps → AllByRecursion AllNamed (principal_pairs ps)
pairs_named [] h = tt
pairs_named (p ∷ ps) h = all_append AllNamed (partners p ps) (principal_pairs ps) (partners_named p ps h.0 h.1)
    (pairs_named ps h.1)

-- what holds of the small situation of each set holds of each of these situations
each_situation : (P : Situation → Type 0) (n : ℕ) (sets : List (List Principal))
    → AllByRecursion (λ ps. P (small_situation n ps)) sets → AllByRecursion P (map (small_situation n) sets)
each_situation P n [] h = tt
each_situation P n (ps ∷ sets) h = (h.0, each_situation P n sets h.1)

-- the names of the questions of a list with names are names
pub questions_named : (xs : List Ace) → HasNames xs → AllByRecursion IsSituation (questions_of xs)
questions_named xs h = each_situation IsSituation n (small_sets whole) (all_weaker AllNamed
    (λ ps. IsSituation (small_situation n ps)) (small_sets whole)
    (λ ps named. small_is_situation n ps (omega arith) named) (
      tt,
      all_append AllNamed (singles whole) (principal_pairs whole) (each_single_named whole named)
          (pairs_named whole named),
    ))
  where
    whole : List Principal
    whole = mentioned xs []

    n : ℕ
    n = longest whole + 1

    named : AllNamed whole
    named = mentioned_named xs [] h tt

-- what holds of the situation of each question holds of each question in this way
each_question : (P : Situation → Type 0) (qs : List Question) → AllByRecursion P (map asked_in qs)
    → AllByRecursion (λ q. P (asked_in q)) qs
each_question P [] h = tt
each_question P (q ∷ qs) h = (h.0, each_question P qs h.1)

-- the names of the questions of an accepted list are names
pub all_named : (xs : List Ace) (qs : List Question) → IsAccepted full xs → map asked_in qs ≡ questions_of xs
    → All (λ q. IsSituation (asked_in q)) qs
all_named xs qs accepted same = All-from_recursion (λ q. IsSituation (asked_in q)) qs
    (each_question IsSituation qs (subst (AllByRecursion IsSituation) (sym same)
    (questions_named xs (accepted_names full xs accepted))))

-- the questions of a list are those of the principals that it mentions
pub questions_are : (xs : List Ace) (whole : List Principal) → whole ≡ mentioned xs []
    → map (small_situation (longest whole + 1)) (small_sets whole) ≡ questions_of xs
questions_are xs whole is = ap (λ ps. map (small_situation (longest ps + 1)) (small_sets ps)) is
