-- What a difference has to have, so that an object, a requester and a right can be made of it.
use Rattle.std.proofs.Common.{◌≡◌, ℕ, ◌^◌, ◌<◌, ◌≤◌, Bool, true, List, [], ◌∷◌, length, map}
use Rattle.acl_normal.proofs.Common.{All, all_rights, ap, arith, bits_from_mask, group, has_bit, if◌then◌else◌, is_among, IsMask, IsName, length-map, Principal, set_of, small_situation, SmallSet, subst, sym, trailing_zeros, w32, ◌∙◌, only_bit, one_bit}
use Rattle.std.specs.Borrow.{Bor}
use Rattle.std.proofs.lemmas.List.Elements.{All-cons, All-head, All-map, All-nil, All-tail}
use Rattle.std.proofs.lemmas.Nat.{pow_pos}
use Rattle.acl_normal.proofs.comparison.SetEvaluation.{lowest_is}
use Rattle.acl_normal.specs.OneRight.{IsOneRight}
use Rattle.acl_normal.specs.SmallSituations.{group_names, names_or}

-- the bit of a set of one right is that of a right
pub right_bit : (mask : ℕ) → IsMask mask → IsOneRight mask → has_bit all_rights (trailing_zeros w32 mask) ≡ true
right_bit mask within one =
    let t = trailing_zeros w32 mask in
    bits_from_mask mask t within (subst (λ m. has_bit m t ≡ true) (sym one) (one_bit t))

-- a set of rights that is a power of two is one right
pub one_alone : (mask k : ℕ) → mask ≡ 2 ^ k → IsMask mask → IsOneRight mask
one_alone mask k is within =
    let some : 0 < 2 ^ k = pow_pos k in
    let low = lowest_is mask (λ none. absurd (omega (arith, none, is, some))) within in
    let t = trailing_zeros w32 mask in
    let same : t ≡ k = only_bit k t (subst (λ m. has_bit m t ≡ true) is low.0) in
    is ∙ ap (λ n. 2 ^ n) (sym same)

-- there are no more group names than principals
few_names : (ps : List Principal) → length (group_names ps) ≤ length ps
few_names [] = omega arith
few_names (p ∷ ps) = grind (arith, few_names ps)

-- at most two names, with one name in the place of none, are at most two
names_or_few : (names : List (List ℕ)) (x : List ℕ) → length names ≤ 2 → length (names_or names x) ≤ 2
names_or_few names x l = grind arith

-- a choice between two lists of at most two names has at most two names
either_few : (b : Bool) (xs ys : List (List ℕ)) → length xs ≤ 2 → length ys ≤ 2
    → length (if b then xs else ys) ≤ 2
either_few b xs ys h k = grind arith

-- a small set has at most two principals
two_of : (set : SmallSet) → length (set_of set) ≤ 2
two_of set = grind arith

-- the requester of the small situation of a small set is in at most two groups
pub few_groups : {X : Type 0} (f : X → List ℕ) (xs : List X) (n : ℕ) (set : SmallSet)
    → map f xs ≡ (small_situation n (set_of set)).groups → length xs ≤ 2
few_groups f xs n set is =
    let names = few_names (set_of set) in
    let set_few = two_of set in
    let few : length (group_names (set_of set)) ≤ 2 = omega (arith, names, set_few) in
    let groups : length (small_situation n (set_of set)).groups ≤ 2 =
    either_few (is_among group (set_of set)) _ _ (names_or_few (group_names (set_of set)) _ few) few in
    subst (λ m. m ≤ 2) (length-map xs f) (subst (λ v. length v ≤ 2) (sym is) groups)

-- names have at least one byte, also as the code holds them
pub some_bytes : {X : Type 0} (f : X → List ℕ) (xs : List X) → All IsName (map f xs) → All (λ x. 0 < length (f x)) xs
some_bytes f [] h = All-nil (λ v. 0 < length (f v))
some_bytes f (x ∷ xs) h =
    All-cons (λ v. 0 < length (f v)) x xs (All-head IsName (f x) (map f xs) h).0
    (some_bytes f xs (All-tail IsName (f x) (map f xs) h))

-- no name is empty, said of what the references point to
pub named_groups : (names : List (Bor (List ℕ))) → All (λ g. 0 < length g.now) names
    → All (λ g. 0 < length g) (map (λ g. g.now) names)
named_groups names h = All-map (λ (g : List ℕ). 0 < length g) (λ (g : Bor (List ℕ)). g.now) names h
