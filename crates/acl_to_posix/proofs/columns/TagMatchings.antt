-- A list as a function of the tags that match: what it grants in a situation depends on these alone, and each matching
-- is that of a situation, for a given set of ids.
use Rattle.std.proofs.Common.{◌≡◌, ◌<◌, ℕ, zero, suc, Bool, true, false, List, [], ◌∷◌, Option, None, Some, refl, sym, ap, subst, ◌∙◌, arith, inl, inr}
use Rattle.std.proofs.lemmas.Bool.{cases_Bool, eqb-true, false≢true, true≢false}
use Rattle.std.proofs.lemmas.Bool.Decides.{nat_tests}
use Rattle.std.proofs.lemmas.List.Elements.{recursion_from_All}
use Rattle.std.proofs.lemmas.Slice.Eq.{bytes_eq-Decides}
use Rattle.std.specs.Prelude.{◌⊎◌, ◌==◌, if◌then◌else◌, map, option_map, unwrap_or}
use Rattle.std.specs.Cmp.Lexicographic.{nat_list_eq_equiv}
use Rattle.std.specs.Fmt.{decimal}
use Rattle.std.specs.List.{AllByRecursion}
use Rattle.std.specs.Ordering.{eq_by_cmp}
use Rattle.std.specs.Str.{bytes_eq}
use Rattle.acl_perm.specs.Bits.{IsPerm, has_bit}
use Rattle.acl_perm.specs.Kind.{is_allow}
use Rattle.acl_perm.specs.Principal.{Principal, owner, user, group, group_named, everyone}
use Rattle.acl_perm.specs.Situation.{is_one_of, matches}
use Rattle.acl_perm.specs.declared.kind.Kind.{Kind}
use Rattle.acl_perm.specs.declared.kind.Kind.TheVariants.{Deny}
use Rattle.acl_posix.specs.Check.{Object, Requester}
use Rattle.acl_posix.specs.Id.{IsId, greatest_id}
use Rattle.acl_posix.specs.Tag as tag
use Rattle.acl_posix.specs.Tag.{Tag, tag_cmp}
use Rattle.acl_posix.proofs.Exports.{same_tag}
use Rattle.acl_nfs4.specs.Ace.{Ace}
use Rattle.acl_eval.specs.Bridge.{image, is_group_tag}
use Rattle.acl_eval.specs.BridgeLaws.{IsAsked, by_name}
use Rattle.acl_eval.specs.Column.{Column, column, first_kind, verdict}
use Rattle.acl_eval.specs.Grant.{grants_bit}
use Rattle.acl_to_posix.specs.internal.ShapeBody.{TagColumn, column_decided_by, tag_meets}
use Rattle.acl_to_posix.proofs.Passes.{eq_by_cmp-refl}
use Rattle.acl_eval.proofs.BridgeNames.{is_one, same_name}
use Rattle.acl_eval.proofs.Images.{image_right}
use Rattle.acl_to_posix.proofs.Matchings.{IsMatching, Matching, alone, no_groups, nobody, with_group}
use Rattle.acl_to_posix.proofs.prunings.PruningEnds.{OneGroup, OneGroupDenies}
use Rattle.acl_to_posix.proofs.prunings.PruningSteps.{Granting}

-- ---- the id whose digits a name is

-- the greatest number below a bound whose digits the name is
digits_below : ℕ → List ℕ → Option ℕ
digits_below zero name = None
digits_below (suc k) name = if bytes_eq (decimal k) name then Some k else digits_below k name

-- the number of a name, if there is one, has these digits, and otherwise no number has
abbrev pub IsFound : ℕ → List ℕ → Option ℕ → Type 0
IsFound k name None = (id : ℕ) → id < k → bytes_eq (decimal id) name ≡ false
IsFound k name (Some id) = (id < k) × (bytes_eq (decimal id) name ≡ true)

-- so it is for the number that is found below a bound
found_below : (k : ℕ) (name : List ℕ) → IsFound k name (digits_below k name)
unfolding digits_below
found_below zero name = λ id lt. absurd (omega (arith, lt))
found_below (suc k) name = by (found_below k name) (bytes_eq (decimal k) name) refl
  where
    more : (o : Option ℕ) → IsFound k name o → bytes_eq (decimal k) name ≡ false → IsFound (suc k) name o
    more None all e = λ id lt. elim (cases_Bool (id == k)) [
      | inl same ↦ ap (λ (n : ℕ). bytes_eq (decimal n) name) (eqb-true id k same) ∙ e
      | inr differ ↦ all id (smaller id lt differ)
    ]
      where
        smaller : (id : ℕ) → id < suc k → (id == k) ≡ false → id < k
        smaller id lt differ = grind (arith, nat_tests)
    more (Some id) is e = (omega (arith, is.0), is.1)

    by : IsFound k name (digits_below k name) → (b : Bool) → bytes_eq (decimal k) name ≡ b
        → IsFound (suc k) name (if b then Some k else digits_below k name)
    by rest true e = (omega arith, e)
    by rest false e = more (digits_below k name) rest e

-- the id whose digits the name is
pub id_by_digits : List ℕ → Option ℕ
id_by_digits name = digits_below (suc greatest_id) name

-- the id of a name has these digits, and if there is none, no id has them
pub found_id : (name : List ℕ) → IsFound (suc greatest_id) name (id_by_digits name)
unfolding id_by_digits
found_id name = found_below (suc greatest_id) name

-- ---- tags of principals

-- the tag of a principal, or none for a name that is not the digits of an id
abbrev pub digits_tag : Principal → Option Tag
digits_tag owner = Some tag.user_obj
digits_tag (user name) = option_map (λ id. tag.user id) (id_by_digits name)
digits_tag group = Some tag.group_obj
digits_tag (group_named name) = option_map (λ id. tag.group id) (id_by_digits name)
digits_tag everyone = Some tag.other

-- a tag that is there matches
abbrev met : Matching → Option Tag → Bool
met m None = false
met m (Some t) = m t

-- no group has a name that is the digits of no id
none_named : (name : List ℕ) (groups : List ℕ) → ((id : ℕ) → id < suc greatest_id → bytes_eq (decimal id) name ≡ false)
    → AllByRecursion IsId groups → is_one_of name (map decimal groups) ≡ false
none_named name [] lacks all = refl
none_named name (g ∷ groups) lacks all =
    rw (nat_list_eq_equiv.symm name (decimal g) ∙ lacks g (omega (arith, all.0))) (none_named name groups lacks all.1)

-- a principal matches the requester if and only if its tag does
meets_by_digits : (object : Object) (requester : Requester) (p : Principal) → IsAsked object requester
    → matches (by_name object requester) p ≡ met (tag_meets object requester) (digits_tag p)
meets_by_digits object requester owner asked = same_name requester.user object.user asked.asker asked.owner
meets_by_digits object requester (user name) asked = by (id_by_digits name) (found_id name)
  where
    by : (o : Option ℕ) → IsFound (suc greatest_id) name o
        → bytes_eq (decimal requester.user) name ≡ met (tag_meets object requester) (option_map (λ id. tag.user id) o)
    by None lacks = lacks requester.user (omega (arith, asked.asker))
    by (Some id) is = ap (bytes_eq (decimal requester.user)) (sym ((bytes_eq-Decides (decimal id) name).0 is.1))
        ∙ same_name requester.user id asked.asker (omega (arith, is.0))
meets_by_digits object requester group asked =
    is_one object.group requester.groups asked.owning_group (recursion_from_All IsId requester.groups asked.groups)
meets_by_digits object requester (group_named name) asked = by (id_by_digits name) (found_id name)
  where
    by : (o : Option ℕ) → IsFound (suc greatest_id) name o → is_one_of name (map decimal requester.groups)
        ≡ met (tag_meets object requester) (option_map (λ id. tag.group id) o)
    by None lacks = none_named name requester.groups lacks (recursion_from_All IsId requester.groups asked.groups)
    by (Some id) is =
        ap (λ (n : List ℕ). is_one_of n (map decimal requester.groups))
        (sym ((bytes_eq-Decides (decimal id) name).0 is.1))
        ∙ is_one id requester.groups (omega (arith, is.0)) (recursion_from_All IsId requester.groups asked.groups)
meets_by_digits object requester everyone asked = refl

-- ---- columns by tags

-- a key with a tag, before others
abbrev pub put : Option Tag → Kind → TagColumn → TagColumn
put None kind keys = keys
put (Some t) kind keys = (t, kind) ∷ keys

-- the keys of a column, each with its tag
abbrev pub tag_keys : Column → TagColumn
tag_keys [] = []
tag_keys ((p, kind) ∷ rest) = put (digits_tag p) kind (tag_keys rest)

-- one key decides, or the others
put_decides : (m : Matching) (o : Option Tag) (kind : Kind) (keys : TagColumn)
    → column_decided_by m (put o kind keys) false ≡ (if met m o then is_allow kind else column_decided_by m keys false)
put_decides m None kind keys = refl
put_decides m (Some t) kind keys = refl

-- a column decides as its keys do
keys_decide : (object : Object) (requester : Requester) (c : Column) → IsAsked object requester
    → is_allow (verdict (matches (by_name object requester)) c)
    ≡ column_decided_by (tag_meets object requester) (tag_keys c) false
keys_decide object requester [] asked = refl
keys_decide object requester ((p, kind) ∷ rest) asked =
    by (matches (by_name object requester) p)
    ∙ ap (λ (b : Bool). if b then is_allow kind else is_allow (verdict (matches (by_name object requester)) rest))
    (meets_by_digits object requester p asked)
    ∙ ap (λ (x : Bool). if met (tag_meets object requester) (digits_tag p) then is_allow kind else x)
    (keys_decide object requester rest asked)
    ∙ sym (put_decides (tag_meets object requester) (digits_tag p) kind (tag_keys rest))
  where
    by : (b : Bool)
        → is_allow (unwrap_or (if b then Some kind else first_kind (matches (by_name object requester)) rest) Deny)
        ≡ (if b then is_allow kind else is_allow (verdict (matches (by_name object requester)) rest))
    by true = refl
    by false = refl

-- the list grants the bit, if these tags match
abbrev pub tags_grant : List Ace → Matching → ℕ → Bool
tags_grant list m bit = column_decided_by m (tag_keys (column list bit)) false

-- the list grants the rights of some permissions, if these tags match
abbrev pub granted_to : List Ace → Granting
granted_to list want m = (bit : ℕ) → has_bit (image want) bit ≡ true → tags_grant list m bit ≡ true

-- in a situation a list grants a bit as it does under the tags that match there
pub bit_by_tags : (list : List Ace) (object : Object) (requester : Requester) (bit : ℕ) → IsAsked object requester
    → grants_bit list (by_name object requester) bit ≡ tags_grant list (tag_meets object requester) bit
bit_by_tags list object requester bit asked = keys_decide object requester (column list bit) asked

-- ---- one group denies

-- a group that is enough to deny a bit
record OneKey (keys : TagColumn) (m : Matching) : Type 0 where
  one : Tag
  is_group : is_group_tag one ≡ true
  matches : m one ≡ true
  denied : column_decided_by (with_group one m) keys false ≡ false
  strangers : column_decided_by (alone one) keys false ≡ false

-- a tag that does not match is none that does
not_same : (m : Matching) (t d : Tag) → m t ≡ false → m d ≡ true → eq_by_cmp tag_cmp t d ≡ false
not_same m t d outside is = elim (cases_Bool (eq_by_cmp tag_cmp t d)) [
  | inl same ↦ absurd (true≢false (sym is ∙ (ap m (sym (same_tag t d same)) ∙ outside)))
  | inr differ ↦ differ
]

-- a tag that does not match does not match without groups
without_groups : (m : Matching) (t : Tag) → m t ≡ false → no_groups m t ≡ false
without_groups m tag.user_obj h = h
without_groups m (tag.user id) h = h
without_groups m tag.group_obj h = refl
without_groups m (tag.group id) h = refl
without_groups m tag.mask h = h
without_groups m tag.other h = h

-- nor does it match with one group that matches in place of the others
with_another : (m : Matching) (d t : Tag) → m t ≡ false → m d ≡ true → with_group d m t ≡ false
with_another m d tag.user_obj h is = h
with_another m d (tag.user id) h is = h
with_another m d tag.group_obj h is = not_same m tag.group_obj d h is
with_another m d (tag.group id) h is = not_same m (tag.group id) d h is
with_another m d tag.mask h is = h
with_another m d tag.other h is = h

-- nor for a stranger in one group that matches
alone_another : (m : Matching) (d t : Tag) → m tag.other ≡ true → m t ≡ false → m d ≡ true → alone d t ≡ false
alone_another m d tag.user_obj e h is = refl
alone_another m d (tag.user id) e h is = refl
alone_another m d tag.group_obj e h is = not_same m tag.group_obj d h is
alone_another m d (tag.group id) e h is = not_same m (tag.group id) d h is
alone_another m d tag.mask e h is = refl
alone_another m d tag.other e h is = absurd (true≢false (sym e ∙ h))

-- with one group in place of the others, this group matches
own_group : (m : Matching) (d : Tag) → is_group_tag d ≡ true → with_group d m d ≡ true
own_group m tag.user_obj h = absurd (false≢true h)
own_group m (tag.user id) h = absurd (false≢true h)
own_group m tag.group_obj h = refl
own_group m (tag.group id) h = eq_by_cmp-refl (tag.group id)
own_group m tag.mask h = absurd (false≢true h)
own_group m tag.other h = absurd (false≢true h)

-- a tag of no group matches without groups as before
not_a_group : (m : Matching) (d : Tag) → is_group_tag d ≡ false → no_groups m d ≡ m d
not_a_group m tag.user_obj h = refl
not_a_group m (tag.user id) h = refl
not_a_group m tag.group_obj h = absurd (true≢false h)
not_a_group m (tag.group id) h = absurd (true≢false h)
not_a_group m tag.mask h = refl
not_a_group m tag.other h = refl

-- what is granted without groups is granted with them, or one group is enough to deny it
one_key : (keys : TagColumn) (m : Matching) → m tag.other ≡ true → column_decided_by (no_groups m) keys false ≡ true
    → (column_decided_by m keys false ≡ true) ⊎ OneKey keys m
one_key [] m all h = absurd (false≢true h)
one_key ((t, k) ∷ keys) m all h = by (one_key keys m all) (m t) (is_allow k) (is_group_tag t) refl refl refl
  where
    decided : (n : Matching) (b : Bool) → n t ≡ b
        → column_decided_by n ((t, k) ∷ keys) false ≡ (if b then is_allow k else column_decided_by n keys false)
    decided n b e = ap (λ (c : Bool). if c then is_allow k else column_decided_by n keys false) e

    passed : m t ≡ false → OneKey keys m → OneKey ((t, k) ∷ keys) m
    passed e o = record {
      one = o.one;
      is_group = o.is_group;
      matches = o.matches;
      denied = decided (with_group o.one m) false (with_another m o.one t e o.matches) ∙ o.denied;
      strangers = decided (alone o.one) false (alone_another m o.one t all e o.matches) ∙ o.strangers;
    }

    by : (column_decided_by (no_groups m) keys false ≡ true → (column_decided_by m keys false ≡ true) ⊎ OneKey keys m)
        → (b a g : Bool) → m t ≡ b → is_allow k ≡ a → is_group_tag t ≡ g
        → (column_decided_by m ((t, k) ∷ keys) false ≡ true) ⊎ OneKey ((t, k) ∷ keys) m
    by rest false a g e allow is = elim (rest (sym (decided (no_groups m) false (without_groups m t e)) ∙ h)) [
      | inl granted ↦ inl (decided m false e ∙ granted)
      | inr one ↦ inr (passed e one)
    ]
    by rest true true g e allow is = inl (decided m true e ∙ allow)
    by rest true false true e allow is = inr (record {
      one = t;
      is_group = is;
      matches = e;
      denied = decided (with_group t m) true (own_group m t is) ∙ allow;
      strangers = decided (alone t) true (own_group nobody t is) ∙ allow;
    })
    by rest true false false e allow is =
        absurd (true≢false (sym h ∙ (decided (no_groups m) true (not_a_group m t is ∙ e) ∙ allow)))

-- for the rights of permissions
one_bit : (list : List Ace) (want : ℕ) (m : Matching) (bit : ℕ) → IsMatching m → granted_to list want (no_groups m)
    → (has_bit (image want) bit ≡ true → tags_grant list m bit ≡ true) ⊎ OneGroup (granted_to list) want m
one_bit list want m bit ok without = elim (cases_Bool (has_bit (image want) bit)) [
  | inl has ↦ elim (one_key (tag_keys (column list bit)) m ok.everyone (without bit has)) [
    | inl granted ↦ inl (λ _. granted)
    | inr one ↦ inr (record {
      one = one.one;
      is_group = one.is_group;
      matches = one.matches;
      denied = λ granted. true≢false (sym (granted bit has) ∙ one.denied);
      strangers = λ granted. true≢false (sym (granted bit has) ∙ one.strangers);
    })
  ]
  | inr lacks ↦ inl (λ has. absurd (true≢false (sym has ∙ lacks)))
]

-- the four rights of permissions
all_bits : (list : List Ace) (want : ℕ) (m : Matching) → IsPerm want
    → (has_bit (image want) 0 ≡ true → tags_grant list m 0 ≡ true)
    → (has_bit (image want) 1 ≡ true → tags_grant list m 1 ≡ true)
    → (has_bit (image want) 2 ≡ true → tags_grant list m 2 ≡ true)
    → (has_bit (image want) 5 ≡ true → tags_grant list m 5 ≡ true) → granted_to list want m
all_bits list want m small read write append execute bit has = elim (image_right want bit small has) [
  | inl is ↦ at 0 is.0 read
  | inr more ↦ elim more [
    | inl is ↦ at 1 is.0 write
    | inr rest ↦ elim rest [
      | inl is ↦ at 2 is.0 append
      | inr is ↦ at 5 is.0 execute
    ]
  ]
]
  where
    at : (b : ℕ) → bit ≡ b → (has_bit (image want) b ≡ true → tags_grant list m b ≡ true)
        → tags_grant list m bit ≡ true
    at b is granted = subst (λ (n : ℕ). has_bit (image want) n ≡ true → tags_grant list m n ≡ true) (sym is) granted has

-- what somebody in no group is granted, he is granted in all his groups, or one group denies it
pub one_group_denies : (list : List Ace) → OneGroupDenies (granted_to list)
one_group_denies list want m ok small without = elim (one_bit list want m 0 ok without) [
  | inl read ↦ elim (one_bit list want m 1 ok without) [
    | inl write ↦ elim (one_bit list want m 2 ok without) [
      | inl append ↦ elim (one_bit list want m 5 ok without) [
        | inl execute ↦ inl (all_bits list want m small read write append execute)
        | inr one ↦ inr one
      ]
      | inr one ↦ inr one
    ]
    | inr one ↦ inr one
  ]
  | inr one ↦ inr one
]
