-- The principals that lists mention.
use Rattle.acl_normal.proofs.Common.{Ace, AllByRecursion, Column, Equal, Greater, HasName, HasNames, IsRisingSet, Less, List, Ordering, Principal, [], ap, arith, column, everyone, false, is_among, is_mentioning, length, longest, mentioned, mentioned_in, or_cases, or_left, principal_cmp, principal_eq, principal_exact, principal_name, principal_of, principal_total, refl, true, ℕ, ⊎_elim, ◌++◌, ◌+◌, ◌<◌, ◌∷◌, ◌≡◌, ◌≤◌}
use Rattle.std.specs.BTreeSet.{insert_key}
use Rattle.std.specs.Ordering.{match_ordering}
use Rattle.std.proofs.lemmas.Bool.{cond_both}
use Rattle.acl_normal.proofs.Each.{all_append, all_left, all_right, all_weaker, cond_holds}
use Rattle.acl_normal.proofs.unique.Names.{longest_name, principal_eq_itself, principal_eq_same}
use Rattle.acl_normal.proofs.comparison.Ordered.{principal_greater}
use Rattle.acl_normal.proofs.unique.Columns.{HasOnly}

-- what holds of each of three values in its case holds of the one that an order chooses
chosen_has : {A : Type 0} (P : A → Type 0) (o : Ordering) {x y z : A} → (o ≡ Less → P x) → (o ≡ Equal → P y)
    → (o ≡ Greater → P z) → P (match_ordering o x y z)
chosen_has P Less f g h = f refl
chosen_has P Equal f g h = g refl
chosen_has P Greater f g h = h refl

-- an insert keeps what holds of each
pub all_insert : (P : Principal → Type 0) (ps : List Principal) (p : Principal) → AllByRecursion P ps → P p
    → AllByRecursion P (insert_key principal_cmp ps p)
all_insert P [] p h hp = (hp, tt)
all_insert P (x ∷ ps) p h hp = chosen_has (AllByRecursion P) (principal_cmp p x) (λ e. (hp, h)) (λ e. h)
    (λ e. (h.0, all_insert P ps p h.1 hp))

-- a principal that is put into a set is in it
pub among_insert_new : (ps : List Principal) (p : Principal) → is_among p (insert_key principal_cmp ps p) ≡ true
among_insert_new [] p = or_left _ _ (principal_eq_itself p)
among_insert_new (x ∷ ps) p = grind (arith, among_insert_new ps p, principal_eq_itself p, principal_exact p x)

-- a principal of a set is in it after another is put in
pub among_insert_old : (ps : List Principal) (p q : Principal) → is_among q ps ≡ true
    → is_among q (insert_key principal_cmp ps p) ≡ true
among_insert_old [] p q h = cc
among_insert_old (x ∷ ps) p q h = grind (arith, among_insert_old ps p q)

-- a principal below another is below each that the other is below
pub below_all : (p x : Principal) (ps : List Principal) → principal_cmp p x ≡ Less
    → AllByRecursion (λ q. principal_cmp x q ≡ Less) ps → AllByRecursion (λ q. principal_cmp p q ≡ Less) ps
below_all p x [] h a = tt
below_all p x (q ∷ ps) h a = (principal_total.trans p x q h a.0, below_all p x ps h a.1)

-- a rising list with one principal more in its place rises
pub rising_insert : (ps : List Principal) (p : Principal) → IsRisingSet ps → IsRisingSet (insert_key principal_cmp ps p)
rising_insert [] p r = (tt, tt)
rising_insert (x ∷ ps) p r = chosen_has IsRisingSet (principal_cmp p x) (λ e. ((e, below_all p x ps e r.0), r))
    (λ e. r) (λ e. (
      all_insert (λ q. principal_cmp x q ≡ Less) ps p r.0 (principal_greater p x e),
      rising_insert ps p r.1,
    ))

-- the principals that a list mentions are in order
pub rising_in : (xs : List Ace) → IsRisingSet (mentioned_in xs)
rising_in [] = tt
rising_in (a ∷ xs) = cond_holds IsRisingSet (is_mentioning a) _ _
    (rising_insert (mentioned_in xs) (principal_of a) (rising_in xs)) (rising_in xs)

-- what holds of each principal that an ACE of a list mentions holds of the principals that the list mentions
pub all_in : (P : Principal → Type 0) (xs : List Ace)
    → AllByRecursion (λ a. is_mentioning a ≡ true → P (principal_of a)) xs → AllByRecursion P (mentioned_in xs)
all_in P [] each = tt
all_in P (a ∷ xs) each = cond_both (is_mentioning a) _ _ (AllByRecursion P)
    (λ e. all_insert P (mentioned_in xs) (principal_of a) (all_in P xs each.1) (each.0 e)) (λ e. all_in P xs each.1)

-- a list mentions the principal that an ACE of it mentions
pub among_mentioned : (xs : List Ace)
    → AllByRecursion (λ a. is_mentioning a ≡ true → is_among (principal_of a) (mentioned_in xs) ≡ true) xs
among_mentioned [] = tt
among_mentioned (a ∷ xs) = (
  λ m. rw m (among_insert_new (mentioned_in xs) (principal_of a)),
  all_weaker (λ b. is_mentioning b ≡ true → is_among (principal_of b) (mentioned_in xs) ≡ true)
      (λ b. is_mentioning b ≡ true → is_among (principal_of b) (mentioned_in (a ∷ xs)) ≡ true) xs
      (λ b h m. cond_holds (λ v. is_among (principal_of b) v ≡ true) (is_mentioning a) _ _
      (among_insert_old (mentioned_in xs) (principal_of a) (principal_of b) (h m)) (h m))
      (among_mentioned xs),
)

-- two lists mention the principal that an ACE of the first one mentions
pub among_first : (xs ys : List Ace)
    → AllByRecursion (λ a. is_mentioning a ≡ true → is_among (principal_of a) (mentioned xs ys) ≡ true) xs
among_first xs ys = all_left (λ a. is_mentioning a ≡ true → is_among (principal_of a) (mentioned xs ys) ≡ true) xs ys
    (among_mentioned (xs ++ ys))

-- the principal is everyone or one of these
abbrev pub IsOneOf : List Principal → Principal → Type 0
IsOneOf ps p = is_among p (everyone ∷ ps) ≡ true

-- each principal of a column is everyone or mentioned
mentioned_has : (b : ℕ) (xs : List Ace) (whole : List Principal)
    → AllByRecursion (λ a. is_mentioning a ≡ true → is_among (principal_of a) whole ≡ true) xs
    → HasOnly (IsOneOf whole) (column xs b)
mentioned_has b [] whole h = tt
mentioned_has b (a ∷ xs) whole h = grind (arith, mentioned_has b xs whole h.1, h.0)

-- each principal of a column of the first list is everyone or mentioned
pub first_has : (b : ℕ) (xs ys : List Ace) → HasOnly (IsOneOf (mentioned xs ys)) (column xs b)
first_has b xs ys = mentioned_has b xs (mentioned xs ys) (among_first xs ys)

-- each principal of a column of the second list is everyone or mentioned
pub second_has : (b : ℕ) (xs ys : List Ace) → HasOnly (IsOneOf (mentioned xs ys)) (column ys b)
second_has b xs ys = mentioned_has b ys (mentioned xs ys)
    (all_right (λ a. is_mentioning a ≡ true → is_among (principal_of a) (mentioned xs ys) ≡ true) xs ys
    (among_mentioned (xs ++ ys)))

-- the name of one of some principals is at most as long as their longest name
pub within_longest : (ps : List Principal) (p : Principal) → is_among p ps ≡ true
    → length (principal_name p) ≤ longest ps
within_longest [] p h = cc
within_longest (x ∷ ps) p h = grind (arith, within_longest ps p, principal_eq_same p x)

-- the name of everyone or of a mentioned principal is shorter than the strange names
pub one_is_short : (ps : List Principal) (p : Principal) → IsOneOf ps p → length (principal_name p) < longest ps + 1
one_is_short ps p h = ⊎_elim
    (λ e. let none : length (principal_name p) ≡ 0 =
    ap (λ v. length (principal_name v)) (principal_eq_same p everyone e) in omega arith)
    (λ i. let below : length (principal_name p) ≤ longest ps = within_longest ps p i in omega arith)
    (or_cases (principal_eq p everyone) (is_among p ps) h)

-- the names of a column of such principals are shorter than the strange names
pub column_is_short : (ps : List Principal) (c : Column) → HasOnly (IsOneOf ps) c → longest_name c < longest ps + 1
column_is_short ps [] h = omega arith
column_is_short ps ((p, k) ∷ c) h = let here = one_is_short ps p h.0 in let there = column_is_short ps c h.1 in
    omega arith

-- an ACE that mentions a principal is not of everyone
pub mentions_others : (xs : List Ace)
    → AllByRecursion (λ a. is_mentioning a ≡ true → principal_eq (principal_of a) everyone ≡ false) xs
mentions_others [] = tt
mentions_others (a ∷ xs) = (λ m. grind arith, mentions_others xs)

-- no mentioned principal is everyone
pub mentioned_others : (xs ys : List Ace) → AllByRecursion (λ p. principal_eq p everyone ≡ false) (mentioned xs ys)
mentioned_others xs ys = all_in (λ p. principal_eq p everyone ≡ false) (xs ++ ys) (mentions_others (xs ++ ys))

-- a principal that an ACE of a list with names mentions has a name
pub mentions_named : (xs : List Ace) → HasNames xs
    → AllByRecursion (λ a. is_mentioning a ≡ true → HasName (principal_of a)) xs
mentions_named [] h = tt
mentions_named (a ∷ xs) h = (λ _. h.0, mentions_named xs h.1)

-- the principals that two lists with names mention have names
pub mentioned_named : (xs ys : List Ace) → HasNames xs → HasNames ys → AllByRecursion HasName (mentioned xs ys)
mentioned_named xs ys h i =
    all_in HasName (xs ++ ys) (mentions_named (xs ++ ys) (all_append (λ a. HasName (principal_of a)) xs ys h i))

-- the principals that two lists mention are in order
pub mentioned_rising : (xs ys : List Ace) → IsRisingSet (mentioned xs ys)
mentioned_rising xs ys = rising_in (xs ++ ys)
