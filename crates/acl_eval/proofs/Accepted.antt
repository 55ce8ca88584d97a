-- Each ACE of the list of a POSIX ACL may be in a list, so only the limits can refuse that list.
use Rattle.std.proofs.Common.{◌∙◌, ◌≡◌, ℕ, ◌-◌, ◌<◌, ◌≤◌, Bool, true, false, cond, eqb, List, [], ◌∷◌, ◌++◌, length, refl, ap, arith}
use Rattle.std.specs.Prelude.{count_ones, ◌||◌}
use Rattle.std.specs.List.{AllByRecursion, filter, flat_map}
use Rattle.std.specs.FinMap as fin
use Rattle.std.proofs.lemmas.List.Elements.{recursion_from_All}
use Rattle.std.proofs.lemmas.Fmt.{decimal_injective}
use Rattle.acl_perm.specs.Bits.{all_flags}
use Rattle.acl_perm.specs.Profile.{full}
use Rattle.acl_nfs4.specs.Within.{IsWithin}
use Rattle.acl_perm.proofs.Bools.{or_true_right}
use Rattle.acl_perm.specs.declared.kind.Kind.{Kind}
use Rattle.acl_perm.specs.declared.kind.Kind.TheVariants.{Allow, Deny}
use Rattle.acl_posix.specs.Tag.{Tag, IsTag, user_obj, user, group_obj, group, mask, other}
use Rattle.acl_posix.specs.Entries.{Entries, IsEntry}
use Rattle.acl_posix.specs.Mask.{effective_of}
use Rattle.acl_nfs4.specs.Ace.{Ace}
use Rattle.acl_nfs4.specs.Who.{IsWho}
use Rattle.acl_nfs4.specs.Spelling.{IsAce, weight}
use Rattle.acl_nfs4.proofs.Exports.{is_who-decimal, is_who-everyone, is_who-group, is_who-owner, weight-cons}
use Rattle.acl_eval.specs.Bridge.{image, bridged_who, bridged_flags, ace_of, each, is_user_tag, is_group_tag, is_other_tag, allow_of, deny_of, decide_of, bridge_list}
use Rattle.acl_eval.specs.BridgeNames.{NamesDiffer, NamesAreValid, OnlyLimitsRefuse}
use Rattle.acl_eval.proofs.Images.{image_mask, image_some}
use Rattle.acl_eval.proofs.EntryRuns.{effective_lt, each_weaker}
use Rattle.acl_eval.proofs.BridgeNames.{not_owner, not_group, not_everyone}

-- ---- names

-- different ids have different names
pub names_differ : NamesDiffer
names_differ m n p q e = decimal_injective m n (omega arith) (omega arith) e

-- each name is a valid who, and none is a special identifier
pub names_valid : NamesAreValid
names_valid n lt = (is_who-decimal n (omega (arith, lt)), rw (not_owner n lt, not_group n lt, not_everyone n lt) refl)

-- ---- ACEs

-- the ACE may be in a list, and its mask is not empty
abbrev Good : Ace → Type 0
Good a = IsAce full a × (0 < count_ones a.mask)

-- an ACE of a tag may be in a list if the flags and the who of the tag may
with_who : (k : Kind) (l : Tag) (p : ℕ) → p < 8 → IsWithin all_flags (bridged_flags l) → IsWho (bridged_who l)
    → AllByRecursion Good (ace_of k l p)
unfolding ace_of
with_who k l p lt fl w =
    elim (eqb p 0) as (λ t. eqb p 0 ≡ t
    → AllByRecursion Good (cond t []
    (record { kind = k; flags = bridged_flags l; mask = image p; who = bridged_who l } ∷ []))) [
      | true ↦ λ e. tt
      | false ↦ λ e. ((record { flags = fl; mask = image_mask p lt; who = w }, image_some p lt e), tt)
    ] refl

-- the tag has ACEs in some part of the list: each tag has them but MASK
abbrev has_aces : Tag → Bool
has_aces l = is_user_tag l || is_group_tag l || is_other_tag l

-- an ACE of a tag that has ACEs may be in a list
each_ace : (k : Kind) (l : Tag) (p : ℕ) → p < 8 → IsTag l → has_aces l ≡ true → AllByRecursion Good (ace_of k l p)
each_ace k user_obj p lt is h = with_who k user_obj p lt refl is_who-owner
each_ace k (user id) p lt is h = with_who k (user id) p lt refl (is_who-decimal id (omega (arith, is)))
each_ace k group_obj p lt is h = with_who k group_obj p lt refl is_who-group
each_ace k (group id) p lt is h = with_who k (group id) p lt refl (is_who-decimal id (omega (arith, is)))
each_ace k mask p lt is h = absurd cc
each_ace k other p lt is h = with_who k other p lt refl is_who-everyone

-- if the ACEs of two lists may be in a list, so may those of both lists together
good-append : (xs ys : List Ace) → AllByRecursion Good xs → AllByRecursion Good ys → AllByRecursion Good (xs ++ ys)
good-append [] ys h g = g
good-append (a ∷ xs) ys h g = (h.0, good-append xs ys h.1 g)

-- the ACEs of a part may be in a list if those of each of its entries may
of_part : (which : Tag → Bool) (f : Tag × ℕ → List Ace) (es : List (Tag × ℕ))
    → ((e : Tag × ℕ) → IsEntry e → which e.0 ≡ true → AllByRecursion Good (f e)) → AllByRecursion IsEntry es
    → AllByRecursion Good (each which f es)
of_part which f [] g all = tt
of_part which f (e ∷ es) g all =
    let rest = of_part which f es g all.1 in
    elim (which e.0) as (λ t. which e.0 ≡ t
    → AllByRecursion Good (flat_map f (cond t (e ∷ filter (λ x. which x.0) es) (filter (λ x. which x.0) es)))) [
      | true ↦ λ is. good-append (f e) (each which f es) (g e all.0 is) rest
      | false ↦ λ is. rest
    ] refl

-- USER_OBJ and USER have ACEs
user_has : (l : Tag) → is_user_tag l ≡ true → has_aces l ≡ true
user_has l h = rw h refl

-- GROUP_OBJ and GROUP have ACEs
group_has : (l : Tag) → is_group_tag l ≡ true → has_aces l ≡ true
group_has l h = ap (λ (b : Bool). (is_user_tag l || b) || is_other_tag l) h
    ∙ ap (λ (b : Bool). b || is_other_tag l) (or_true_right (is_user_tag l))

-- OTHER has ACEs
other_has : (l : Tag) → is_other_tag l ≡ true → has_aces l ≡ true
other_has l h =
    ap (λ (b : Bool). (is_user_tag l || is_group_tag l) || b) h ∙ or_true_right (is_user_tag l || is_group_tag l)

-- each ACE of the bridged list may be in a list, and its mask is not empty
aces_good : (E : Entries) → AllByRecursion IsEntry (fin.entries E) → AllByRecursion Good (bridge_list E)
unfolding bridge_list
aces_good E all =
    let es = fin.entries E in
    let allows = λ (e : Tag × ℕ) (is : IsEntry e) (n : has_aces e.0 ≡ true). each_ace Allow e.0 (effective_of E e)
    (effective_lt E e is.1) is.0 n in
    let denies = λ (e : Tag × ℕ) (is : IsEntry e) (n : has_aces e.0 ≡ true). each_ace Deny e.0 (7 - effective_of E e)
    (omega arith) is.0 n in
    let a = of_part is_user_tag (decide_of E) es (λ e is u. good-append (allow_of E e) (deny_of E e)
    (allows e is (user_has e.0 u)) (denies e is (user_has e.0 u))) all in
    let b = of_part is_group_tag (allow_of E) es (λ e is g. allows e is (group_has e.0 g)) all in
    let c = of_part is_group_tag (deny_of E) es (λ e is g. denies e is (group_has e.0 g)) all in
    let d = of_part is_other_tag (allow_of E) es (λ e is o. allows e is (other_has e.0 o)) all in
    let users = each is_user_tag (decide_of E) es in
    let group_allows = each is_group_tag (allow_of E) es in
    let group_denies = each is_group_tag (deny_of E) es in
    good-append (users ++ group_allows ++ group_denies) (each is_other_tag (allow_of E) es)
    (good-append (users ++ group_allows) group_denies (good-append users group_allows a b) c) d

-- each ACE of the bridged list may be in a list
pub aces_valid : (E : Entries) → AllByRecursion IsEntry (fin.entries E) → AllByRecursion (IsAce full) (bridge_list E)
aces_valid E all = each_weaker Good (IsAce full) (λ a g. g.0) (bridge_list E) (aces_good E all)

-- a list of ACEs whose masks are not empty has no more ACEs than mask bits
no_longer : (xs : List Ace) → AllByRecursion Good xs → length xs ≤ weight xs
no_longer [] h = omega arith
no_longer (a ∷ xs) h = omega (arith, h.0.1, no_longer xs h.1, weight-cons a xs)

-- the list has no more ACEs than mask bits, because no mask is empty
pub length_within : (E : Entries) → AllByRecursion IsEntry (fin.entries E) → length (bridge_list E) ≤ weight
    (bridge_list E)
length_within E all = no_longer (bridge_list E) (aces_good E all)

-- only the limits of a list can refuse the list of a valid ACL
pub only_limits_refuse : OnlyLimitsRefuse
only_limits_refuse entries access = (
  λ ok. (ok.count, ok.weight),
  λ small. record {
    count = small.0;
    weight = small.1;
    each =
        aces_valid entries (recursion_from_All IsEntry (fin.entries entries) access.within);
  },
)
