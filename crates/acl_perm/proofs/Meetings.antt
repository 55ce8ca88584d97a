-- The test by cases finds out whether some situation matches two principals.
use Rattle.std.proofs.Common.{◌≡◌, ℕ, Bool, true, false, List, [], ◌∷◌, refl, sym, ◌∙◌}
use Rattle.std.specs.Prelude.{◌↔◌, ◌||◌, IsTrue}
use Rattle.std.specs.Str.{bytes_eq}
use Rattle.std.proofs.lemmas.Bool.{or_left, or_right}
use Rattle.std.proofs.lemmas.Slice.Eq.{bytes_eq-Decides}
use Rattle.std.specs.Borrow.{Bor}
use Rattle.acl_perm.specs.declared.principal.Principal.{Principal as PrincipalRef}
use Rattle.acl_perm.specs.declared.principal.Principal.TheVariants as code
use Rattle.acl_perm.specs.Principal.{Principal, owner, user, group, group_named, everyone, principal}
use Rattle.acl_perm.specs.Situation.{Situation, matches}
use Rattle.acl_perm.specs.Order.{principal_name}
use Rattle.acl_perm.specs.Overlap.{Overlap, may_overlap}

-- a name is equal to itself
pub itself : (name : List ℕ) → bytes_eq name name ≡ true
itself name = (bytes_eq-Decides name name).1 refl

-- names that the test finds equal are equal
pub bytes_eq_same : (a b : List ℕ) → bytes_eq a b ≡ true → a ≡ b
bytes_eq_same a b = (bytes_eq-Decides a b).0

-- the name of the user, if one of the two principals is a user
common_user : Principal → Principal → List ℕ
common_user owner q = principal_name q
common_user (user name) q = name
common_user group q = principal_name q
common_user (group_named name) q = principal_name q
common_user everyone q = principal_name q

-- a requester whom both can match: the user is the owner, in the owning group, and in each group that either names
meeting : Principal → Principal → Situation
meeting p q = record {
  owner_name = common_user p q;
  owning_group = [];
  user_name = common_user p q;
  groups = [] ∷ principal_name p ∷ principal_name q ∷ [];
}

-- one of three tests holds if the second one does
second_of : (x y z : Bool) → y ≡ true → (x || (y || z)) ≡ true
second_of x y z h = or_right x (y || z) (or_left y z h)

-- one of three tests holds if the third one does
third_of : (x y z : Bool) → z ≡ true → (x || (y || (z || false))) ≡ true
third_of x y z h = or_right x (y || (z || false)) (or_right y (z || false) (or_left z false h))

-- the requester that is made for two principals matches the first of them
meets_first : (p q : Principal) → matches (meeting p q) p ≡ true
unfolding meeting common_user
meets_first owner q = itself (principal_name q)
meets_first (user a) q = itself a
meets_first group q = refl
meets_first (group_named a) q =
    second_of (bytes_eq a []) (bytes_eq a a) (bytes_eq a (principal_name q) || false) (itself a)
meets_first everyone q = refl

-- if the test by cases holds, the requester that is made for two principals matches the second of them
meets_second : (p q : Principal) → may_overlap p q ≡ true → matches (meeting p q) q ≡ true
unfolding meeting common_user
meets_second p owner h = itself (common_user p owner)
meets_second (user a) (user b) h = h
meets_second owner (user b) h = itself b
meets_second group (user b) h = itself b
meets_second (group_named a) (user b) h = itself b
meets_second everyone (user b) h = itself b
meets_second p group h = refl
meets_second p (group_named b) h =
    third_of (bytes_eq b []) (bytes_eq b (principal_name p)) (bytes_eq b b) (itself b)
meets_second p everyone h = refl

-- if some requester matches two principals, the test by cases holds for them
one_user : (s : Situation) (p q : Principal) → matches s p ≡ true → matches s q ≡ true → may_overlap p q ≡ true
one_user s owner q h k = refl
one_user s (user a) owner h k = refl
one_user s (user a) (user b) h k =
    (bytes_eq-Decides a b).1 (sym ((bytes_eq-Decides s.user_name a).0 h) ∙ (bytes_eq-Decides s.user_name b).0 k)
one_user s (user a) group h k = refl
one_user s (user a) (group_named b) h k = refl
one_user s (user a) everyone h k = refl
one_user s group q h k = refl
one_user s (group_named a) q h k = refl
one_user s everyone q h k = refl

-- the test by cases holds if and only if some situation matches both
pub overlap_is : (p q : Principal) → IsTrue (may_overlap p q) ↔ Overlap p q
overlap_is p q = (λ h. (meeting p q, meets_first p q, meets_second p q h), λ o. one_user o.0 p q o.1 o.2)

-- ---- an answer by cases

-- an answer that equals the test by cases says whether two principals overlap
pub answer_is_overlap : (p q : Principal) (answer : Bool) → answer ≡ may_overlap p q → IsTrue answer ↔ Overlap p q
answer_is_overlap p q answer e = rw e (overlap_is p q)

-- for two users, the test by cases compares their names
pub two_users : (p q : PrincipalRef) (name other : Bor (List ℕ)) (answer : Bool) → p ≡ code.User name
    → q ≡ code.User other → answer ≡ bytes_eq name.now other.now
    → answer ≡ may_overlap (principal p) (principal q)
two_users p q name other answer pe qe e = rw (pe, qe) e

-- two principals overlap if the first is not a user
pub first_no_user : (p q : PrincipalRef) → ((name : Bor (List ℕ)) → p ≡ code.User name → ⊥)
    → true ≡ may_overlap (principal p) (principal q)
first_no_user code.Owner q none = refl
first_no_user (code.User name) q none = absurd (none name refl)
first_no_user code.Group q none = refl
first_no_user (code.GroupNamed name) q none = refl
first_no_user code.Everyone q none = refl

-- two principals overlap if the second is not a user
pub second_no_user : (p q : PrincipalRef) → ((name : Bor (List ℕ)) → q ≡ code.User name → ⊥)
    → true ≡ may_overlap (principal p) (principal q)
second_no_user code.Owner q none = refl
second_no_user (code.User name) code.Owner none = refl
second_no_user (code.User name) (code.User other) none = absurd (none other refl)
second_no_user (code.User name) code.Group none = refl
second_no_user (code.User name) (code.GroupNamed other) none = refl
second_no_user (code.User name) code.Everyone none = refl
second_no_user code.Group q none = refl
second_no_user (code.GroupNamed name) q none = refl
second_no_user code.Everyone q none = refl
