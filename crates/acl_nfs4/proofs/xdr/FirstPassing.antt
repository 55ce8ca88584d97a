-- The place of the first ACE that passes a test.
use Rattle.acl_nfs4.proofs.Common.{[], Ace, ace, ap, arith, Bool, cond, false, get_or, le-ltb, length, length-map, List, lt-ltb, ltb-true, map, nat_lt, None, not, Option, refl, Some, suc, sym, take, take_all, true, zero, ℕ, ◌+◌, ◌<◌, ◌∙◌, ◌∷◌, ◌≡◌, ◌≤◌}
use Rattle.std.specs.List.{list_any, position, position_or_len}
use Rattle.std.specs.Prelude.{◌||◌}
use Rattle.std.proofs.lemmas.List.Folds.{list_any_more}
use Rattle.acl_nfs4.specs.declared.ace.AceRef.{AceRef}

-- a test of some of one more ACE
pub any_more : (p : AceRef → Bool) (es : List AceRef) (i : ℕ) (item : AceRef) → i < length es → item ≡ get_or es i item
    → list_any p (take (i + 1) es) ≡ (list_any p (take i es) || p item)
any_more p es i item lt read = list_any_more p es i item lt
    ∙ ap (λ (x : AceRef). list_any p (take i es) || p x) (sym read)

-- if neither passes, the one does not, and the other does not
or_none : (a b : Bool) → (a || b) ≡ false → (a ≡ false) × (b ≡ false)
or_none true b e = absurd cc
or_none false b e = (refl, e)

-- the first place in a list of ACEs is that in the list of the code
places_map : (p : Ace → Bool) (es : List AceRef) → position_or_len p (map ace es) ≡ position_or_len (λ a. p (ace a)) es
places_map p [] = refl
places_map p (x ∷ es) = ap (λ (n : ℕ). cond (not (p (ace x))) (1 + n) 0) (places_map p es)

-- the same of the place that is found
pub place_map : (p : Ace → Bool) (es : List AceRef) → position (λ a. p (ace a)) es ≡ position p (map ace es)
place_map p es = sym (ap (λ (k : ℕ). cond (nat_lt k (length (map ace es))) (Some k) None) (places_map p es)
    ∙ ap (λ (n : ℕ). cond (nat_lt (position_or_len (λ a. p (ace a)) es) n) (Some (position_or_len (λ a. p (ace a)) es))
    None)
    (length-map es ace))

-- if no element passes, the first does not, and none of the others does
pub none_passes : {X : Type 0} (p : X → Bool) (x : X) (xs : List X) → position p (x ∷ xs) ≡ None
    → (p x ≡ false) × (position p xs ≡ None)
none_passes p x xs h = (first (p x) refl, others (nat_lt (position_or_len p xs) (length xs)) refl)
  where
    first : (b : Bool) → p x ≡ b → p x ≡ false
    first false e = e
    first true e =
        let lt : nat_lt 0 (suc (length xs)) ≡ true = lt-ltb 0 (suc (length xs)) (omega arith) in
        let found : position p (x ∷ xs) ≡ Some 0 = rw (e, lt) refl in
        let wrong : ◌≡◌ {A = Option ℕ} (Some 0) None = sym found ∙ h in
        absurd cc

    others : (b : Bool) → nat_lt (position_or_len p xs) (length xs) ≡ b → position p xs ≡ None
    others false e = rw e refl
    others true e =
        let before : position_or_len p xs < length xs = ltb-true (position_or_len p xs) (length xs) e in
        let lt : nat_lt (1 + position_or_len p xs) (suc (length xs)) ≡ true =
        lt-ltb (1 + position_or_len p xs) (suc (length xs)) (omega (arith, before)) in
        let found : position p (x ∷ xs) ≡ Some (1 + position_or_len p xs) = rw (first (p x) refl, lt) refl in
        let wrong : ◌≡◌ {A = Option ℕ} (Some (1 + position_or_len p xs)) None = sym found ∙ h in
        absurd cc

-- if no element passes, none at a place does
pub passes_nowhere : {X : Type 0} (p : X → Bool) (xs : List X) (i : ℕ) (d : X) → position p xs ≡ None → i < length xs
    → p (get_or xs i d) ≡ false
passes_nowhere p [] i d h lt = absurd (omega (arith, lt))
passes_nowhere p (x ∷ xs) zero d h lt = (none_passes p x xs h).0
passes_nowhere p (x ∷ xs) (suc i) d h lt = passes_nowhere p xs i d (none_passes p x xs h).1 (omega (arith, lt))

-- the place of the first element that passes is the number of those before it
place_len : {X : Type 0} (p : X → Bool) (xs : List X) (i : ℕ) (d : X) → list_any p (take i xs) ≡ false → i < length xs
    → p (get_or xs i d) ≡ true → position_or_len p xs ≡ i
place_len p [] i d before lt e = absurd (omega (arith, lt))
place_len p (x ∷ xs) zero d before lt e = rw e refl
place_len p (x ∷ xs) (suc i) d before lt e =
    let both = or_none (p x) (list_any p (take i xs)) before in
    let next : position_or_len p xs ≡ i = place_len p xs i d both.1 (omega (arith, lt)) e in
    rw (both.0, next) (omega arith)

-- the number of elements of which none passes
len_none : {X : Type 0} (p : X → Bool) (xs : List X) → list_any p xs ≡ false → position_or_len p xs ≡ length xs
len_none p [] none = refl
len_none p (x ∷ xs) none =
    let both = or_none (p x) (list_any p xs) none in
    rw (both.0, len_none p xs both.1) (omega arith)

-- the place of the first ACE that passes
pub place_is : (p : Ace → Bool) (es : List AceRef) (i : ℕ) (item : AceRef)
    → list_any (λ a. p (ace a)) (take i es) ≡ false
    → i < length es → item ≡ get_or es i item → p (ace item) ≡ true → Some i ≡ position p (map ace es)
place_is p es i item before lt read e =
    let found : position_or_len (λ a. p (ace a)) es ≡ i =
    place_len (λ a. p (ace a)) es i item before lt (ap (λ (x : AceRef). p (ace x)) (sym read) ∙ e) in
    let less : nat_lt i (length es) ≡ true = lt-ltb i (length es) lt in
    let is : position (λ a. p (ace a)) es ≡ Some i = rw (found, less) refl in
    sym is ∙ place_map p es

-- no ACE passes
pub place_none : (p : Ace → Bool) (es : List AceRef) (i : ℕ) → list_any (λ a. p (ace a)) (take i es) ≡ false
    → length es ≤ i → None ≡ position p (map ace es)
place_none p es i none le =
    let all : take i es ≡ es = take_all i es le in
    let found : position_or_len (λ a. p (ace a)) es ≡ length es =
    len_none (λ a. p (ace a)) es (ap (list_any (λ a. p (ace a))) (sym all) ∙ none) in
    let less : nat_lt (length es) (length es) ≡ false = le-ltb (length es) (length es) (omega arith) in
    let is : position (λ a. p (ace a)) es ≡ None = rw (found, less) refl in
    sym is ∙ place_map p es
