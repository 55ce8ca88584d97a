-- Whom the ACEs of an entry match: the decimal names of different ids differ, and none is a special who.
use Rattle.std.proofs.Common.{◌≡◌, ℕ, Bool, false, eqb, List, [], ◌∷◌, refl, sym, ap, ◌∙◌, arith}
use Rattle.std.specs.Prelude.{◌&&◌, ◌||◌, ◌==◌, map}
use Rattle.std.specs.List.{AllByRecursion}
use Rattle.std.specs.Fmt.{decimal}
use Rattle.std.specs.Cmp.Lexicographic.{nat_list_eq_equiv}
use Rattle.std.specs.Str.{bytes_eq}
use Rattle.std.specs.Ordering.{nat_cmp, eq_by_cmp, is_eq}
use Rattle.std.proofs.lemmas.Bool.{eqb-true, eq-eqb}
use Rattle.std.proofs.lemmas.Bool.Decides.{nat_tests}
use Rattle.std.proofs.lemmas.Fmt.{decimal_injective}
use Rattle.std.proofs.lemmas.Slice.Eq.{bytes_eq-Decides}
use Rattle.acl_perm.specs.Situation.{Situation, is_one_of}
use Rattle.acl_perm.specs.declared.kind.Kind.{Kind}
use Rattle.acl_perm.specs.declared.kind.Kind.TheVariants.{Allow}
use Rattle.acl_posix.specs.Id.{IsId}
use Rattle.acl_posix.specs.Tag.{Tag, IsTag, tag_cmp, user_obj, user, group_obj, group, mask, other}
use Rattle.acl_posix.specs.Check as posix
use Rattle.acl_posix.specs.Check.{Object, Requester}
use Rattle.acl_posix.proofs.Exports.{bytes_eq-unequal, not_decimal}
use Rattle.acl_perm.proofs.Bools.{same_answers}
use Rattle.acl_nfs4.specs.Ace.{Ace}
use Rattle.acl_nfs4.specs.Who.{owner_name, group_name, everyone_name}
use Rattle.acl_eval.specs.Bridge.{bridged_who, bridged_flags, is_user_tag, is_group_tag}
use Rattle.acl_eval.specs.BridgeLaws.{by_name, IsAsked}
use Rattle.acl_eval.specs.Scan.{applies}

-- ---- decimal names

-- no name of an id is `OWNER@`
pub not_owner : (n : ℕ) → IsId n → bytes_eq (decimal n) owner_name ≡ false
not_owner n h = bytes_eq-unequal (decimal n) owner_name (λ e. not_decimal n _ _ h (omega arith) e)

-- no name of an id is `GROUP@`
pub not_group : (n : ℕ) → IsId n → bytes_eq (decimal n) group_name ≡ false
not_group n h = bytes_eq-unequal (decimal n) group_name (λ e. not_decimal n _ _ h (omega arith) e)

-- no name of an id is `EVERYONE@`
pub not_everyone : (n : ℕ) → IsId n → bytes_eq (decimal n) everyone_name ≡ false
not_everyone n h = bytes_eq-unequal (decimal n) everyone_name (λ e. not_decimal n _ _ h (omega arith) e)

-- names are equal if and only if the ids are
pub same_name : (m n : ℕ) → IsId m → IsId n → bytes_eq (decimal m) (decimal n) ≡ (m == n)
same_name m n p q = same_answers (bytes_eq (decimal m) (decimal n)) (m == n)
    (λ h. eq-eqb m n (decimal_injective m n (omega arith) (omega arith)
    ((bytes_eq-Decides (decimal m) (decimal n)).0 h)))
    (λ h. (bytes_eq-Decides (decimal m) (decimal n)).1 (ap decimal (eqb-true m n h)))

-- a group is among some groups by its name if and only if it is by its id
pub is_one : (id : ℕ) (gs : List ℕ) → IsId id → AllByRecursion IsId gs → is_one_of (decimal id) (map decimal gs)
    ≡ posix.is_member id gs
is_one id [] h all = refl
is_one id (g ∷ gs) h all =
    ap (λ (b : Bool). b || is_one_of (decimal id) (map decimal gs))
    (nat_list_eq_equiv.symm (decimal id) (decimal g) ∙ same_name g id all.0 h)
    ∙ ap (λ (b : Bool). (g == id) || b) (is_one id gs h all.1)

-- ---- the ACEs of a tag

-- an ACE of a tag, with these rights
abbrev pub ace_with : Kind → Tag → ℕ → Ace
ace_with kind tag rights = record { kind = kind; flags = bridged_flags tag; mask = rights; who = bridged_who tag }

-- the ACEs of a tag match the requester
abbrev pub tag_applies : Situation → Tag → Bool
tag_applies s tag = applies s (ace_with Allow tag 0)

-- the ACEs of a USER match the requester who has the name of its id
pub tag_applies-user : (s : Situation) (id : ℕ) → IsId id → tag_applies s (user id) ≡ bytes_eq s.user_name (decimal id)
tag_applies-user s id h = rw (not_owner id h, not_group id h, not_everyone id h) refl

-- the ACEs of a GROUP match a requester who is in the group that has the name of its id
pub tag_applies-group : (s : Situation) (id : ℕ) → IsId id → tag_applies s (group id) ≡ is_one_of (decimal id) s.groups
tag_applies-group s id h = rw (not_owner id h, not_group id h, not_everyone id h) refl

-- two numbers compare equal if and only if they are the same
equal_numbers : (m n : ℕ) → is_eq (nat_cmp m n) ≡ eqb m n
equal_numbers m n = grind (arith, nat_tests)

-- an ACE of USER_OBJ or USER matches a requester who is not the owner if and only if it is the ACE of this user
pub user_test : (object : Object) (requester : Requester) (l : Tag) → IsAsked object requester → IsTag l
    → (requester.user == object.user) ≡ false
    → (is_user_tag l && tag_applies (by_name object requester) l) ≡ eq_by_cmp tag_cmp (user requester.user) l
user_test object requester user_obj a is differ = same_name requester.user object.user a.asker a.owner ∙ differ
user_test object requester (user id) a is differ = tag_applies-user (by_name object requester) id is
    ∙ same_name requester.user id a.asker is ∙ sym (equal_numbers requester.user id)
user_test object requester group_obj a is differ = refl
user_test object requester (group id) a is differ = refl
user_test object requester mask a is differ = refl
user_test object requester other a is differ = refl

-- an ACE of GROUP_OBJ or GROUP matches the requester if and only if the entry does
pub group_test : (object : Object) (requester : Requester) (l : Tag) → IsAsked object requester
    → AllByRecursion IsId requester.groups → IsTag l
    → (is_group_tag l && tag_applies (by_name object requester) l) ≡ posix.tag_matches object.group requester.groups l
group_test object requester user_obj a gs is = refl
group_test object requester (user id) a gs is = refl
group_test object requester group_obj a gs is = is_one object.group requester.groups a.owning_group gs
group_test object requester (group id) a gs is = tag_applies-group (by_name object requester) id is
    ∙ is_one id requester.groups is gs
group_test object requester mask a gs is = refl
group_test object requester other a gs is = refl
