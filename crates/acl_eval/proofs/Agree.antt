-- One bit of the list of a POSIX ACL, compared with the access check.
use Rattle.std.proofs.Common.{◌≡◌, ℕ, ◌^◌, ◌<◌, Bool, true, false, cond, List, [], ◌∷◌, refl, sym, ap, subst, ◌∙◌}
use Rattle.std.specs.Prelude.{bit_and, ◌&&◌, ◌||◌, ◌==◌, not, unwrap_or, Option, Some, None, is_some, T}
use Rattle.std.specs.List.{list_any, AllByRecursion}
use Rattle.std.specs.Ordering.{eq_by_cmp, is_eq, is_lt}
use Rattle.std.specs.declared.cmp.Ordering.TheVariants.{Less}
use Rattle.std.specs.FinMap as fin
use Rattle.std.specs.FinMap.Entries.{below_all, is_sorted}
use Rattle.std.proofs.lemmas.List.Elements.{recursion_from_All}
use Rattle.std.proofs.lemmas.Option.{same_Some}
use Rattle.acl_perm.specs.Bits.{has_bit}
use Rattle.acl_perm.proofs.Bools.{and_regroup, and_swap, and_true_right, and_twice, both_hold, cond_bool, either_and, or_false_right}
use Rattle.acl_perm.proofs.Orders.{passes_less}
use Rattle.acl_perm.proofs.Sets.{has_bit-and, no_bit}
use Rattle.acl_perm.specs.Situation.{Situation}
use Rattle.acl_posix.specs.Id.{IsId}
use Rattle.acl_posix.specs.Tag.{Tag, tag_cmp, is_masked, user_obj, user, group_obj, group, mask, other}
use Rattle.acl_posix.specs.Entries.{Entries, IsEntry}
use Rattle.acl_posix.specs.Texts.{IsAcl}
use Rattle.acl_posix.specs.Mode.{perm_at}
use Rattle.acl_posix.specs.Check as posix
use Rattle.acl_posix.specs.Check.{Object, Requester, contains, grants}
use Rattle.acl_eval.proofs.ValidChecks.{mask_contains, plain, valid_is_complete, plain_check}
use Rattle.acl_posix.proofs.Exports.{same_tag}
use Rattle.acl_eval.specs.Bridge.{is_user_tag, is_group_tag, is_other_tag, bridge_list}
use Rattle.acl_eval.specs.BridgeLaws.{by_name, IsAsked}
use Rattle.acl_eval.proofs.Runs.{run}
use Rattle.acl_eval.proofs.Bits.{contains_power}
use Rattle.acl_eval.proofs.Images.{Belongs}
use Rattle.acl_eval.proofs.BridgeNames.{tag_applies, user_test, group_test, same_name}
use Rattle.acl_eval.proofs.EntryRuns.{first, bit_of, users_test, allows_test, denies_test, others_test, class_answer, each_weaker, run_bridge}

-- a permission, its bit, and the bit of one of its rights
pub record IsRight (want j b : ℕ) : Type 0 where
  pub power : want ≡ 2 ^ j
  pub some : 0 < want
  pub whole : contains 7 want ≡ true
  pub small : j < 3
  pub belongs : Belongs j b

-- ---- tests of some element

-- if two tests agree on all elements, some element passes the first if and only if one passes the second
any_alike : {X : Type 0} (p q : X → Bool) (xs : List X) → AllByRecursion (λ x. p x ≡ q x) xs → list_any p xs
    ≡ list_any q xs
any_alike p q [] h = refl
any_alike p q (x ∷ xs) h = ap (λ (z : Bool). z || list_any p xs) h.0
    ∙ ap (λ (z : Bool). q x || z) (any_alike p q xs h.1)

-- a condition that is the same for all elements can be tested after them
list_any-and : {X : Type 0} (p : X → Bool) (c : Bool) (xs : List X) → list_any (λ x. p x && c) xs ≡ (list_any p xs && c)
list_any-and p c [] = refl
list_any-and p c (x ∷ xs) = ap (λ (z : Bool). (p x && c) || z) (list_any-and p c xs)
    ∙ sym (either_and (p x) (list_any p xs) c)

-- ---- the bit of an entry

-- permissions within MASK, if there is one, have a bit if and only if both contain its permission
masked_bit : (o : Option ℕ) (n j want : ℕ) → want ≡ 2 ^ j → 0 < want → contains 7 want ≡ true
    → has_bit (bit_and n (unwrap_or o n)) j ≡ (contains n want && contains (unwrap_or o 7) want)
masked_bit None n j want e pos all =
    has_bit-and n n j ∙ and_twice (has_bit n j) ∙ sym (and_true_right (has_bit n j))
    ∙ ap (λ (z : Bool). z && true) (sym (contains_power n j want e pos))
    ∙ ap (λ (z : Bool). contains n want && z) (sym all)
masked_bit (Some m) n j want e pos all =
    has_bit-and n m j ∙ ap (λ (z : Bool). z && has_bit m j) (sym (contains_power n j want e pos))
    ∙ ap (λ (z : Bool). contains n want && z) (sym (contains_power m j want e pos))

-- an entry that MASK limits has a bit if and only if the entry and MASK have it
masked_agrees : (E : Entries) (e : Tag × ℕ) (want j b : ℕ) → IsRight want j b → is_masked e.0 ≡ true
    → bit_of E j e ≡ (contains e.1 want && mask_contains E want)
masked_agrees E e want j b right is =
    ap (λ (t : Bool). has_bit (cond t (bit_and e.1 (unwrap_or (fin.get E mask) e.1)) e.1) j) is
    ∙ masked_bit (fin.get E mask) e.1 j want right.power right.some right.whole

-- ---- the order of the entries

-- the entries after a tag have greater tags
below_found : (k q : Tag) (p : ℕ) (ps : List (Tag × ℕ)) → T (below_all tag_cmp k ps) → fin.find tag_cmp q ps ≡ Some p
    → tag_cmp k q ≡ Less
below_found k q p [] h f = absurd cc
below_found k q p (e ∷ ps) h f =
    elim (eq_by_cmp tag_cmp q e.0) as (λ t. eq_by_cmp tag_cmp q e.0 ≡ t → cond t (Some e.1) (fin.find tag_cmp q ps)
    ≡ Some p → tag_cmp k q ≡ Less) [
      | true ↦ λ same g. ap (tag_cmp k) (same_tag q e.0 same)
          ∙ passes_less (tag_cmp k e.0) (both_hold (is_lt (tag_cmp k e.0)) (below_all tag_cmp k ps) h).0
      | false ↦ λ same g. below_found k q p ps (both_hold (is_lt (tag_cmp k e.0)) (below_all tag_cmp k ps) h).1 g
    ] refl f

-- no tag is before USER_OBJ
owner_least : (l : Tag) → tag_cmp l user_obj ≡ Less → ⊥
owner_least user_obj h = cc
owner_least (user id) h = cc
owner_least group_obj h = cc
owner_least (group id) h = cc
owner_least mask h = cc
owner_least other h = cc

-- a tag that does not compare equal to OTHER is not OTHER
other_only : (l : Tag) → eq_by_cmp tag_cmp other l ≡ false → is_other_tag l ≡ false
other_only user_obj h = refl
other_only (user id) h = refl
other_only group_obj h = refl
other_only (group id) h = refl
other_only mask h = refl
other_only other h = absurd cc

-- a tag after OTHER is not OTHER
other_last : (l : Tag) → T (is_lt (tag_cmp other l)) → is_other_tag l ≡ false
other_last l h = other_only l (ap is_eq (passes_less (tag_cmp other l) h))

-- ---- the owner

-- if USER_OBJ matches the requester, its permissions decide the bit
owner_decides : (E : Entries) (s : Situation) (j p : ℕ) (r : Bool) (ps : List (Tag × ℕ)) → tag_applies s user_obj ≡ true
    → T (is_sorted tag_cmp ps) → fin.find tag_cmp user_obj ps ≡ Some p
    → first (users_test s) (bit_of E j) ps r ≡ has_bit p j
owner_decides E s j p r [] meets sorted f = absurd cc
owner_decides E s j p r (e ∷ ps) meets sorted f =
    elim (eq_by_cmp tag_cmp user_obj e.0) as (λ t. eq_by_cmp tag_cmp user_obj e.0 ≡ t
    → cond t (Some e.1) (fin.find tag_cmp user_obj ps) ≡ Some p → first (users_test s) (bit_of E j) (e ∷ ps) r
    ≡ has_bit p j) [
      | true ↦ λ same g.
          ap (λ (l : Tag). cond (is_user_tag l && tag_applies s l) (bit_of E j (l, e.1))
          (first (users_test s) (bit_of E j) ps r)) (sym (same_tag user_obj e.0 same))
          ∙ ap (λ (t : Bool). cond t (has_bit e.1 j) (first (users_test s) (bit_of E j) ps r)) meets
          ∙ ap (λ (n : ℕ). has_bit n j) (same_Some e.1 p g)
      | false ↦ λ same g. absurd
          (owner_least e.0
          (below_found e.0 user_obj p ps (both_hold (below_all tag_cmp e.0 ps) (is_sorted tag_cmp ps) sorted).0 g))
    ] refl f

-- ---- a user with an entry, or none

-- for a requester who is not the owner, the entry of the user and MASK decide, or without this entry the rest
user_decides : (E : Entries) (object : Object) (requester : Requester) (want j b : ℕ) (r : Bool) (ps : List (Tag × ℕ))
    → IsRight want j b → IsAsked object requester → AllByRecursion IsEntry ps → (requester.user == object.user) ≡ false
    → first (users_test (by_name object requester)) (bit_of E j) ps r
    ≡ cond (is_some (fin.find tag_cmp (user requester.user) ps))
    (contains (unwrap_or (fin.find tag_cmp (user requester.user) ps) 0) want && mask_contains E want) r
user_decides E object requester want j b r [] right a all differ = refl
user_decides E object requester want j b r (e ∷ ps) right a all differ =
    let q : Tag = user requester.user in
    let rest : Bool = first (users_test (by_name object requester)) (bit_of E j) ps r in
    ap (λ (z : Bool). cond z (bit_of E j e) rest) (user_test object requester e.0 a all.0.0 differ)
    ∙ elim (eq_by_cmp tag_cmp q e.0) as (λ t. eq_by_cmp tag_cmp q e.0 ≡ t → cond t (bit_of E j e) rest
    ≡ cond (is_some (cond t (Some e.1) (fin.find tag_cmp q ps)))
    (contains (unwrap_or (cond t (Some e.1) (fin.find tag_cmp q ps)) 0) want && mask_contains E want) r) [
      | true ↦ λ same. masked_agrees E e want j b right (ap is_masked (sym (same_tag q e.0 same)))
      | false ↦ λ same. user_decides E object requester want j b r ps right a all.1 differ
    ] refl

-- ---- the group class

-- MASK limits GROUP_OBJ and GROUP
group_masked : (l : Tag) → is_group_tag l ≡ true → is_masked l ≡ true
group_masked user_obj h = absurd cc
group_masked (user id) h = absurd cc
group_masked group_obj h = refl
group_masked (group id) h = refl
group_masked mask h = absurd cc
group_masked other h = absurd cc

-- an entry that matches allows or denies
and_split : (g v m : Bool) → (g && m) ≡ ((g && (v && m)) || (g && (not v && m)))
and_split false v m = refl
and_split true true true = refl
and_split true true false = refl
and_split true false m = refl

-- four alternatives can be paired in two ways
or_swap_middle : (a b c d : Bool) → ((a || b) || (c || d)) ≡ ((a || c) || (b || d))
or_swap_middle true b c d = refl
or_swap_middle false true true d = refl
or_swap_middle false false true d = refl
or_swap_middle false true false d = refl
or_swap_middle false false false d = refl

-- some entry of a group matches if and only if one matches and allows, or one matches and denies
any_split : (E : Entries) (s : Situation) (j : ℕ) (ps : List (Tag × ℕ))
    → list_any (λ e. is_group_tag e.0 && tag_applies s e.0) ps ≡ (list_any (allows_test E s j) ps || list_any
    (denies_test E s j) ps)
any_split E s j [] = refl
any_split E s j (e ∷ ps) =
    ap (λ (z : Bool). z || list_any (λ x. is_group_tag x.0 && tag_applies s x.0) ps)
    (and_split (is_group_tag e.0) (bit_of E j e) (tag_applies s e.0))
    ∙ ap (λ (z : Bool). (allows_test E s j e || denies_test E s j e) || z) (any_split E s j ps)
    ∙ or_swap_middle (allows_test E s j e) (denies_test E s j e) (list_any (allows_test E s j) ps)
    (list_any (denies_test E s j) ps)

-- if some group allows or denies, the answer is whether one allows, and otherwise that of OTHER
class_is : (a d o : Bool) → cond a true (cond d false o) ≡ cond (a || d) a o
class_is true d o = refl
class_is false d o = refl

-- where a test is two others together, it can be replaced by them, in another order
and_reorder : (g v h c m : Bool) → (g ≡ true → v ≡ (h && c)) → (g && (v && m)) ≡ (((g && m) && h) && c)
and_reorder false v h c m e = refl
and_reorder true v h c m e = ap (λ (z : Bool). z && m) (e refl) ∙ and_swap (h && c) m ∙ sym (and_regroup m h c)

-- ---- OTHER

-- no entry after OTHER is of OTHER, allows the bit and matches
none_behind : (E : Entries) (s : Situation) (j : ℕ) (ps : List (Tag × ℕ)) → T (below_all tag_cmp other ps)
    → list_any (others_test E s j) ps ≡ false
none_behind E s j [] h = refl
none_behind E s j (e ∷ ps) h =
    ap (λ (z : Bool). (z && (bit_of E j e && tag_applies s e.0)) || list_any (others_test E s j) ps)
    (other_last e.0 (both_hold (is_lt (tag_cmp other e.0)) (below_all tag_cmp other ps) h).0)
    ∙ none_behind E s j ps (both_hold (is_lt (tag_cmp other e.0)) (below_all tag_cmp other ps) h).1

-- OTHER allows a bit if and only if its permissions contain the permission of the bit
others_decide : (E : Entries) (s : Situation) (want j b : ℕ) (ps : List (Tag × ℕ)) → IsRight want j b
    → T (is_sorted tag_cmp ps)
    → list_any (others_test E s j) ps ≡ contains (unwrap_or (fin.find tag_cmp other ps) 0) want
others_decide E s want j b [] right sorted = sym (contains_power 0 j want right.power right.some ∙ no_bit j)
others_decide E s want j b (e ∷ ps) right sorted =
    elim (eq_by_cmp tag_cmp other e.0) as (λ t. eq_by_cmp tag_cmp other e.0 ≡ t → list_any (others_test E s j) (e ∷ ps)
    ≡ contains (unwrap_or (cond t (Some e.1) (fin.find tag_cmp other ps)) 0) want) [
      | true ↦ λ same.
          let is : e.0 ≡ other = sym (same_tag other e.0 same) in
          let behind : list_any (others_test E s j) ps ≡ false =
          none_behind E s j ps (subst (λ (l : Tag). T (below_all tag_cmp l ps)) is
          (both_hold (below_all tag_cmp e.0 ps) (is_sorted tag_cmp ps) sorted).0) in
          ap (λ (z : Bool). others_test E s j e || z) behind
          ∙ or_false_right (others_test E s j e)
          ∙ ap (λ (l : Tag). is_other_tag l && (bit_of E j (l, e.1) && tag_applies s l)) is
          ∙ and_true_right (has_bit e.1 j)
          ∙ sym (contains_power e.1 j want right.power right.some)
      | false ↦ λ same.
          ap (λ (z : Bool). (z && (bit_of E j e && tag_applies s e.0)) || list_any (others_test E s j) ps)
          (other_only e.0 same)
          ∙ others_decide E s want j b ps right (both_hold (below_all tag_cmp e.0 ps) (is_sorted tag_cmp ps) sorted).1
    ] refl

-- ---- the whole check

-- the answer of the plain check for a requester who is not the owner and has no entry
abbrev class_check : Entries → Object → Requester → ℕ → Bool
class_check E object requester want = cond (posix.any_matches E object.group requester.groups)
    (posix.any_contains E object.group requester.groups want && mask_contains E want) (contains (perm_at E other) want)

-- the group class and OTHER answer as the plain check does for a requester who is not the owner and has no entry
class_decides : (E : Entries) (object : Object) (requester : Requester) (want j b : ℕ) → IsRight want j b
    → IsAsked object requester → AllByRecursion IsEntry (fin.entries E)
    → class_answer E (by_name object requester) j (fin.entries E) ≡ class_check E object requester want
class_decides E object requester want j b right a all =
    let es = fin.entries E in
    let s = by_name object requester in
    let gs = recursion_from_All IsId requester.groups a.groups in
    let og : ℕ = object.group in
    let matched : Bool = posix.any_matches E og requester.groups in
    let allowed : Bool = list_any (allows_test E s j) es in
    let last : Bool = cond (list_any (others_test E s j) es) true false in
    let some : list_any (λ e. is_group_tag e.0 && tag_applies s e.0) es ≡ matched =
    any_alike (λ e. is_group_tag e.0 && tag_applies s e.0) (λ e. posix.tag_matches og requester.groups e.0) es
    (each_weaker IsEntry (λ e. (is_group_tag e.0 && tag_applies s e.0) ≡ posix.tag_matches og requester.groups e.0)
    (λ e is. group_test object requester e.0 a gs is.0) es all) in
    let one : (e : Tag × ℕ) → IsEntry e → allows_test E s j e
    ≡ ((posix.tag_matches og requester.groups e.0 && contains e.1 want) && mask_contains E want) = λ e is.
    and_reorder (is_group_tag e.0) (bit_of E j e) (contains e.1 want) (mask_contains E want) (tag_applies s e.0)
    (λ g. masked_agrees E e want j b right (group_masked e.0 g))
    ∙ ap (λ (z : Bool). (z && contains e.1 want) && mask_contains E want) (group_test object requester e.0 a gs is.0) in
    let granted : allowed ≡ (posix.any_contains E og requester.groups want && mask_contains E want) =
    any_alike (allows_test E s j)
    (λ e. (posix.tag_matches og requester.groups e.0 && contains e.1 want) && mask_contains E want) es
    (each_weaker IsEntry (λ e. allows_test E s j e
    ≡ ((posix.tag_matches og requester.groups e.0 && contains e.1 want) && mask_contains E want)) one es all)
    ∙ list_any-and (λ e. posix.tag_matches og requester.groups e.0 && contains e.1 want) (mask_contains E want) es in
    let others : last ≡ contains (perm_at E other) want =
    cond_bool (list_any (others_test E s j) es) ∙ others_decide E s want j b es right (fin.entries_sorted E)
    ∙ ap (λ (o : Option ℕ). contains (unwrap_or o 0) want) (sym (fin.get-entries E other)) in
    class_is allowed (list_any (denies_test E s j) es) last
    ∙ ap (λ (z : Bool). cond z allowed last) (sym (any_split E s j es) ∙ some)
    ∙ ap (λ (z : Bool). cond matched z last) granted
    ∙ ap (λ (z : Bool). cond matched (posix.any_contains E og requester.groups want && mask_contains E want) z) others

-- an option that is not None has a value
some_value : (o : Option ℕ) → is_some o ≡ true → (p : ℕ) × (o ≡ Some p)
some_value None h = absurd cc
some_value (Some p) h = (p, refl)

-- the list grants a bit if and only if the plain check grants the permission to which the bit belongs
agrees_plainly : (E : Entries) (object : Object) (requester : Requester) (want j b : ℕ) → IsAcl E
    → IsAsked object requester → IsRight want j b
    → run (bridge_list E) (by_name object requester) b false ≡ plain E object requester want
agrees_plainly E object requester want j b access a right =
    let es = fin.entries E in
    let s = by_name object requester in
    let u : Tag = user requester.user in
    let all = recursion_from_All IsEntry es access.within in
    let class : Bool = class_check E object requester want in
    let start : run (bridge_list E) s b false ≡ first (users_test s) (bit_of E j) es class =
    run_bridge E s j b right.belongs right.small all
    ∙ ap (λ (z : Bool). first (users_test s) (bit_of E j) es z) (class_decides E object requester want j b right a all)
    in
    start
    ∙ elim (requester.user == object.user) as (λ t. (requester.user == object.user) ≡ t
    → first (users_test s) (bit_of E j) es class
    ≡ cond t (contains (perm_at E user_obj) want)
    (cond (fin.contains_key E u) (contains (perm_at E u) want && mask_contains E want) class)) [
      | true ↦ λ is.
          let found = some_value (fin.get E user_obj) (valid_is_complete E access.valid).owner in
          owner_decides E s j found.0 class es (same_name requester.user object.user a.asker a.owner ∙ is)
          (fin.entries_sorted E) (sym (fin.get-entries E user_obj) ∙ found.1)
          ∙ sym (contains_power found.0 j want right.power right.some)
          ∙ ap (λ (o : Option ℕ). contains (unwrap_or o 0) want) (sym found.1)
      | false ↦ λ is.
          user_decides E object requester want j b class es right a all is
          ∙ ap (λ (o : Option ℕ). cond (is_some o) (contains (unwrap_or o 0) want && mask_contains E want) class)
          (sym (fin.get-entries E u))
    ] refl

-- the list grants a bit if and only if the check grants the permission to which the bit belongs
pub agrees : (E : Entries) (object : Object) (requester : Requester) (want j b : ℕ) → IsAcl E
    → IsAsked object requester → IsRight want j b
    → run (bridge_list E) (by_name object requester) b false ≡ grants E object requester want
agrees E object requester want j b access a right =
    agrees_plainly E object requester want j b access a right
    ∙ plain_check E object requester want access.valid right.whole
