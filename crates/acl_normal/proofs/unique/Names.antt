-- When two principals, two kinds or two keys are the same, and when two principals overlap.
use Rattle.acl_normal.proofs.Common.{Bool, Column, ColumnKey, Kind, List, Principal, and_from, and_parts, ap, arith, bytes_eq, everyone, group, group_named, is_either, is_either_or_everyone, key_eq, kind_eq, longest, map, may_overlap, or_left, or_right, owner, principal_eq, refl, same_answers, subst, sym, true, user, ℕ, ◌∙◌, ◌≡◌}
use Rattle.std.proofs.lemmas.Slice.Eq.{bytes_eq-Decides}
-- a name is equal to itself, and names that the test finds equal are equal
pub use Rattle.acl_perm.proofs.Meetings.{bytes_eq_same, itself as bytes_eq_itself}
use Rattle.acl_perm.specs.Principal.{is_everyone}

-- the number of bytes of the longest name in a column
abbrev pub longest_name : Column → ℕ
longest_name c = longest (map (λ e. e.0) c)

-- the test for everyone is the test for the same principal as everyone
pub everyone_test : (p : Principal) → is_everyone p ≡ principal_eq p everyone
everyone_test p = grind arith

-- two names are compared alike either way round
pub bytes_eq_turned : (a b : List ℕ) → bytes_eq a b ≡ bytes_eq b a
bytes_eq_turned a b = same_answers (bytes_eq a b) (bytes_eq b a)
    (λ h. (bytes_eq-Decides b a).1 (sym (bytes_eq_same a b h)))
    (λ h. (bytes_eq-Decides a b).1 (sym (bytes_eq_same b a h)))

-- a principal is the same as itself
pub principal_eq_itself : (p : Principal) → principal_eq p p ≡ true
principal_eq_itself p = grind (arith, bytes_eq_itself)

-- principals that pass the test for the same principal are equal
pub principal_eq_same : (p q : Principal) → principal_eq p q ≡ true → p ≡ q
principal_eq_same owner owner h = refl
principal_eq_same (user a) (user b) h = ap user (bytes_eq_same a b h)
principal_eq_same group group h = refl
principal_eq_same (group_named a) (group_named b) h = ap group_named (bytes_eq_same a b h)
principal_eq_same everyone everyone h = refl
principal_eq_same _ _ h = cc

-- two principals are compared alike either way round
pub principal_eq_turned : (p q : Principal) → principal_eq p q ≡ principal_eq q p
principal_eq_turned p q = same_answers (principal_eq p q) (principal_eq q p)
    (λ h. subst (λ v. principal_eq v p ≡ true) (principal_eq_same p q h) (principal_eq_itself p))
    (λ h. subst (λ v. principal_eq v q ≡ true) (principal_eq_same q p h) (principal_eq_itself q))

-- a principal overlaps itself
pub overlaps_itself : (p : Principal) → may_overlap p p ≡ true
overlaps_itself p = grind (arith, bytes_eq_itself)

-- each principal overlaps with everyone
pub overlaps_everyone : (p : Principal) → may_overlap p everyone ≡ true
overlaps_everyone p = grind arith

-- if a principal overlaps with another, the other overlaps with it
pub overlaps_back : (p q : Principal) → may_overlap p q ≡ true → may_overlap q p ≡ true
overlaps_back p q h = grind (arith, bytes_eq_turned)

-- the first of two is one of them
pub either_first : (p q : Principal) → is_either p q p ≡ true
either_first p q = or_left _ _ (principal_eq_itself p)

-- the second of two is one of them
pub either_second : (p q : Principal) → is_either p q q ≡ true
either_second p q = or_right _ _ (principal_eq_itself q)

-- a test that passes two principals passes whatever is either of them
pub either_within : (m : Principal → Bool) (p q : Principal) → m p ≡ true → m q ≡ true → (x : Principal)
    → is_either p q x ≡ true → m x ≡ true
either_within m p q hp hq x h = grind (arith, principal_eq_same)

-- a test that passes two principals and everyone passes whatever is one of these
pub either_or_everyone_within : (m : Principal → Bool) (p q : Principal) → m p ≡ true → m q ≡ true → m everyone ≡ true
    → (x : Principal) → is_either_or_everyone p q x ≡ true → m x ≡ true
either_or_everyone_within m p q hp hq he x h = grind (arith, principal_eq_same)

-- the first of two is one of these and everyone
pub or_everyone_first : (p q : Principal) → is_either_or_everyone p q p ≡ true
or_everyone_first p q = or_left (is_either p q p) _ (either_first p q)

-- the second of two principals is one of these two or everyone
pub or_everyone_second : (p q : Principal) → is_either_or_everyone p q q ≡ true
or_everyone_second p q = or_left (is_either p q q) _ (either_second p q)

-- kinds that pass the test for the same kind are equal
pub kind_eq_same : (j k : Kind) → kind_eq j k ≡ true → j ≡ k
kind_eq_same j k h = grind arith

-- a kind is the same as itself
pub kind_eq_itself : (j : Kind) → kind_eq j j ≡ true
kind_eq_itself j = grind arith

-- keys that pass the test for the same key are equal
pub key_eq_same : (k l : ColumnKey) → key_eq k l ≡ true → k ≡ l
key_eq_same k l h =
    let both = and_parts (principal_eq k.0 l.0) (kind_eq k.1 l.1) h in
    ap (λ v. (v, k.1)) (principal_eq_same k.0 l.0 both.0) ∙ ap (λ v. (l.0, v)) (kind_eq_same k.1 l.1 both.1)

-- a key is the same as itself
pub key_eq_itself : (k : ColumnKey) → key_eq k k ≡ true
key_eq_itself k = and_from (principal_eq k.0 k.0) (kind_eq k.1 k.1) (principal_eq_itself k.0) (kind_eq_itself k.1)
