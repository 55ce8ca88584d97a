-- The columns of a list by tags: what they decide, key by key, and that no tag is there twice.
use Rattle.std.proofs.Common.{◌≡◌, ◌≤◌, ℕ, suc, ◌+◌, ◌<◌, Bool, true, false, List, [], ◌∷◌, ◌++◌, Option, None, Some, refl, sym, ap, ◌∙◌, get_or, drop, length, arith}
use Rattle.std.proofs.lemmas.List.{at_drop_more, length-append}
use Rattle.std.proofs.lemmas.List.Elements.{recursion_from_All}
use Rattle.std.proofs.lemmas.Option.{same_Some}
use Rattle.std.specs.Prelude.{◌&&◌, ◌||◌, if◌then◌else◌, option_map}
use Rattle.std.specs.Ordering.{eq_by_cmp}
use Rattle.acl_perm.specs.Bits.{has_bit}
use Rattle.acl_perm.specs.Kind.{is_allow}
use Rattle.acl_perm.specs.Principal.{Principal, owner, user, group, group_named, everyone}
use Rattle.acl_perm.specs.Situation.{matches}
use Rattle.acl_posix.specs.Check.{Object, Requester}
use Rattle.acl_posix.specs.Id.{IsId}
use Rattle.acl_posix.specs.Names.{Table}
use Rattle.acl_posix.specs.Tag as tag
use Rattle.acl_posix.specs.Tag.{Tag, tag_cmp, tag_of}
use Rattle.acl_posix.proofs.Exports.{same_tag}
use Rattle.acl_nfs4.specs.Ace.{Ace}
use Rattle.acl_nfs4.specs.Limits.{most_aces}
use Rattle.acl_nfs4.specs.Who.{principal_of}
use Rattle.acl_eval.specs.BridgeLaws.{IsAsked, by_name}
use Rattle.acl_eval.specs.Column.{takes_part}
use Rattle.acl_eval.specs.Grant.{grants_bit}
use Rattle.acl_ids.specs.Ids.{HasId, IsSomeId, by_id, id_of_name, with_id, with_ids}
use Rattle.acl_to_posix.specs.internal.ShapeBody.{AreFirst, DecidesColumnAs, IsColumnOf, TagColumn, column_decided_by, has_tag, keys_of, principal_tag, tag_meets, tagged_column}
use Rattle.acl_to_posix.specs.declared.tag_column.TagKey.{TagKey}
use Rattle.acl_to_posix.specs.declared.tag_column.TaggedAce.{TaggedAce}
use Rattle.acl_eval.proofs.BridgeNames.{is_one, same_name}
use Rattle.acl_eval.proofs.Columns.{bit_at_first}
use Rattle.acl_ids.proofs.IdNames.{with_id_names}
use Rattle.acl_to_posix.proofs.Passes.{eq_by_cmp-comm}

-- ---- whom a tag meets

-- the principal of an ACE by its id matches the requester if and only if its tag does
pub meets : (table : Table) (a : Ace) (object : Object) (requester : Requester) (t : Tag) → IsAsked object requester
    → HasId table (principal_of a) → principal_tag table (principal_of a) ≡ Some t
    → matches (by_name object requester) (principal_of (with_id table a)) ≡ tag_meets object requester t
meets table a object requester t asked known is =
    ap (matches (by_name object requester)) (with_id_names table a known) ∙ by (principal_of a) known is
  where
    of_user : (name : List ℕ) (o : Option ℕ) → id_of_name table.users name ≡ o → IsSomeId o
        → option_map (λ id. tag.user id) o ≡ Some t
        → matches (by_name object requester) (by_id table (user name)) ≡ tag_meets object requester t
    of_user name None e h is = absurd h
    of_user name (Some id) e h is = rw e (same_name requester.user id asked.asker h
        ∙ ap (tag_meets object requester) (same_Some _ _ is))

    of_group : (name : List ℕ) (o : Option ℕ) → id_of_name table.groups name ≡ o → IsSomeId o
        → option_map (λ id. tag.group id) o ≡ Some t
        → matches (by_name object requester) (by_id table (group_named name)) ≡ tag_meets object requester t
    of_group name None e h is = absurd h
    of_group name (Some id) e h is =
        rw e (is_one id requester.groups h (recursion_from_All IsId requester.groups asked.groups)
        ∙ ap (tag_meets object requester) (same_Some _ _ is))

    by : (p : Principal) → HasId table p → principal_tag table p ≡ Some t
        → matches (by_name object requester) (by_id table p) ≡ tag_meets object requester t
    by owner h is = same_name requester.user object.user asked.asker asked.owner
        ∙ ap (tag_meets object requester) (same_Some _ _ is)
    by (user name) h is = of_user name (id_of_name table.users name) refl h is
    by group h is =
        is_one object.group requester.groups asked.owning_group (recursion_from_All IsId requester.groups asked.groups)
        ∙ ap (tag_meets object requester) (same_Some _ _ is)
    by (group_named name) h is = of_group name (id_of_name table.groups name) refl h is
    by everyone h is = ap (tag_meets object requester) (same_Some _ _ is)

-- ---- one more ACE

-- what is decided by ACEs with tags, if one more is behind them
tagged_more : (test : Tag → Bool) (aces : List TaggedAce) (a : TaggedAce) (bit : ℕ) (rest : Bool)
    → column_decided_by test (tagged_column (aces ++ a ∷ []) bit) rest
    ≡ column_decided_by test (tagged_column aces bit)
    (if has_bit a.mask.bits bit && test (tag_of a.whom) then is_allow a.kind else rest)
tagged_more test [] a bit rest = by (has_bit a.mask.bits bit) refl
  where
    by : (h : Bool) → has_bit a.mask.bits bit ≡ h → column_decided_by test (tagged_column (a ∷ []) bit) rest
        ≡ (if has_bit a.mask.bits bit && test (tag_of a.whom) then is_allow a.kind else rest)
    by true e = rw e refl
    by false e = rw e refl
tagged_more test (x ∷ aces) a bit rest = by (tagged_more test aces a bit rest) (has_bit x.mask.bits bit) refl
  where
    next : Bool
    next = if has_bit a.mask.bits bit && test (tag_of a.whom) then is_allow a.kind else rest

    by : column_decided_by test (tagged_column (aces ++ a ∷ []) bit) rest
        ≡ column_decided_by test (tagged_column aces bit) next
        → (h : Bool) → has_bit x.mask.bits bit ≡ h
        → column_decided_by test (tagged_column (x ∷ aces ++ a ∷ []) bit) rest
        ≡ column_decided_by test (tagged_column (x ∷ aces) bit) next
    by others true e = rw e (ap (λ (b : Bool). if test (tag_of x.whom) then is_allow x.kind else b) others)
    by others false e = rw e others

-- an ACE that takes part decides by its tag, as it does by its name
pub one_tagged : (table : Table) (aces more : List TaggedAce) (t : TaggedAce) (a : Ace) (list rest : List Ace)
    (bit : ℕ) (object : Object) (requester : Requester) (whole : Bool) → list ≡ a ∷ rest → takes_part a ≡ true
    → HasId table (principal_of a) → principal_tag table (principal_of a) ≡ Some (tag_of t.whom)
    → t.kind ≡ a.kind → t.mask.bits ≡ a.mask → more ≡ aces ++ t ∷ [] → IsAsked object requester
    → column_decided_by (tag_meets object requester) (tagged_column aces bit)
    (grants_bit (with_ids table list) (by_name object requester) bit) ≡ whole
    → column_decided_by (tag_meets object requester) (tagged_column more bit)
    (grants_bit (with_ids table rest) (by_name object requester) bit) ≡ whole
one_tagged table aces more t a list rest bit object requester whole next part known is kind mask pushed asked before =
    let s = by_name object requester in
    let here : grants_bit (with_ids table (a ∷ rest)) s bit
    ≡ (if has_bit t.mask.bits bit && tag_meets object requester (tag_of t.whom) then is_allow t.kind
    else grants_bit (with_ids table rest) s bit) =
    bit_at_first (with_id table a) (with_ids table rest) s bit
    ∙ rw (part, meets table a object requester (tag_of t.whom) asked known is, kind, mask) refl in
    ap (λ (xs : List TaggedAce). column_decided_by (tag_meets object requester) (tagged_column xs bit)
    (grants_bit (with_ids table rest) s bit)) pushed
    ∙ tagged_more (tag_meets object requester) aces t bit (grants_bit (with_ids table rest) s bit)
    ∙ ap (column_decided_by (tag_meets object requester) (tagged_column aces bit)) (sym here)
    ∙ ap (λ (xs : List Ace). column_decided_by (tag_meets object requester) (tagged_column aces bit)
    (grants_bit (with_ids table xs) s bit)) (sym next)
    ∙ before

-- an ACE that takes no part decides nothing
pub one_passed : (table : Table) (aces : List TaggedAce) (a : Ace) (list rest : List Ace)
    (bit : ℕ) (object : Object) (requester : Requester) (whole : Bool) → list ≡ a ∷ rest → takes_part a ≡ false
    → column_decided_by (tag_meets object requester) (tagged_column aces bit)
    (grants_bit (with_ids table list) (by_name object requester) bit) ≡ whole
    → column_decided_by (tag_meets object requester) (tagged_column aces bit)
    (grants_bit (with_ids table rest) (by_name object requester) bit) ≡ whole
one_passed table aces a list rest bit object requester whole next part before =
    let s = by_name object requester in
    let here : grants_bit (with_ids table (a ∷ rest)) s bit ≡ grants_bit (with_ids table rest) s bit =
    bit_at_first (with_id table a) (with_ids table rest) s bit ∙ by (has_bit a.mask bit) part in
    ap (column_decided_by (tag_meets object requester) (tagged_column aces bit)) (sym here)
    ∙ ap (λ (xs : List Ace). column_decided_by (tag_meets object requester) (tagged_column aces bit)
    (grants_bit (with_ids table xs) s bit)) (sym next)
    ∙ before
  where
    by : (h : Bool) → takes_part a ≡ false
        → (if h && (takes_part a && matches (by_name object requester) (principal_of (with_id table a)))
        then is_allow a.kind else grants_bit (with_ids table rest) (by_name object requester) bit)
        ≡ grants_bit (with_ids table rest) (by_name object requester) bit
    by true e = rw e refl
    by false e = refl

-- ---- each tag once

-- the first of some ACEs decides, or else the others
tagged_first : (test : Tag → Bool) (a : TaggedAce) (aces : List TaggedAce) (bit : ℕ) (rest : Bool)
    → column_decided_by test (tagged_column (a ∷ aces) bit) rest
    ≡ (if has_bit a.mask.bits bit && test (tag_of a.whom) then is_allow a.kind
    else column_decided_by test (tagged_column aces bit) rest)
tagged_first test a aces bit rest = by (has_bit a.mask.bits bit) refl
  where
    by : (h : Bool) → has_bit a.mask.bits bit ≡ h → column_decided_by test (tagged_column (a ∷ aces) bit) rest
        ≡ (if has_bit a.mask.bits bit && test (tag_of a.whom) then is_allow a.kind
        else column_decided_by test (tagged_column aces bit) rest)
    by true e = rw e refl
    by false e = rw e refl

-- what is decided by keys, if one more is behind them
keys_more : (test : Tag → Bool) (keys : List TagKey) (key : TagKey) (rest : Bool)
    → column_decided_by test (keys_of (keys ++ key ∷ [])) rest
    ≡ column_decided_by test (keys_of keys) (if test (tag_of key.whom) then is_allow key.kind else rest)
keys_more test [] key rest = refl
keys_more test (k ∷ keys) key rest =
    ap (λ (b : Bool). if test (tag_of k.whom) then is_allow k.kind else b) (keys_more test keys key rest)

-- if a tag that passes the test is there, what follows decides nothing
settled : (test : Tag → Bool) (t : Tag) (keys : TagColumn) (x y : Bool) → has_tag t keys ≡ true → test t ≡ true
    → column_decided_by test keys x ≡ column_decided_by test keys y
settled test t [] x y has passes = absurd cc
settled test t ((u, k) ∷ keys) x y has passes =
    by (λ more. settled test t keys x y more passes) (eq_by_cmp tag_cmp t u) refl
  where
    by : (has_tag t keys ≡ true → column_decided_by test keys x ≡ column_decided_by test keys y)
        → (e : Bool) → eq_by_cmp tag_cmp t u ≡ e
        → column_decided_by test ((u, k) ∷ keys) x ≡ column_decided_by test ((u, k) ∷ keys) y
    by others true e = rw (sym (ap test (same_tag t u e)) ∙ passes) refl
    by others false e = ap (λ (b : Bool). if test u then is_allow k else b)
        (others (sym (ap (λ (b : Bool). b || has_tag t keys) e) ∙ has))

-- an ACE with a tag that is there decides nothing more
kept : (test : Tag → Bool) (t : Tag) (keys : TagColumn) (allow rest : Bool) → has_tag t keys ≡ true
    → column_decided_by test keys rest ≡ column_decided_by test keys (if test t then allow else rest)
kept test t keys allow rest has = by (test t) refl
  where
    by : (e : Bool) → test t ≡ e
        → column_decided_by test keys rest ≡ column_decided_by test keys (if test t then allow else rest)
    by true e = rw e (settled test t keys rest allow has e)
    by false e = rw e refl

-- what the keys and the ACEs that are left decide, with the first of these by itself
left : (test : Tag → Bool) (keys : List TagKey) (aces : List TaggedAce) (i bit : ℕ) (a : TaggedAce) → i < length aces
    → a ≡ get_or aces i a
    → column_decided_by test (keys_of keys) (column_decided_by test (tagged_column (a ∷ drop (i + 1) aces) bit) false)
    ≡ column_decided_by test (keys_of keys) (column_decided_by test (tagged_column (drop i aces) bit) false)
left test keys aces i bit a lt at =
    let of = λ (xs : List TaggedAce). column_decided_by test (keys_of keys)
    (column_decided_by test (tagged_column xs bit) false) in
    ap (λ (x : TaggedAce). of (x ∷ drop (i + 1) aces)) at ∙ sym (at_drop_more of aces i a lt)

-- a key is added for an ACE that has the right, and whose tag is not there
pub key_added : (test : Tag → Bool) (keys more : List TagKey) (key : TagKey) (aces : List TaggedAce) (i bit : ℕ)
    (a : TaggedAce) (whole : Bool) → i < length aces → a ≡ get_or aces i a → has_bit a.mask.bits bit ≡ true
    → more ≡ keys ++ key ∷ [] → key.whom ≡ a.whom → key.kind ≡ a.kind
    → column_decided_by test (keys_of keys) (column_decided_by test (tagged_column (drop i aces) bit) false) ≡ whole
    → column_decided_by test (keys_of more) (column_decided_by test (tagged_column (drop (i + 1) aces) bit) false)
    ≡ whole
key_added test keys more key aces i bit a whole lt at has pushed whom kind before =
    let rest : Bool = column_decided_by test (tagged_column (drop (i + 1) aces) bit) false in
    ap (λ (ks : List TagKey). column_decided_by test (keys_of ks) rest) pushed ∙ keys_more test keys key rest
    ∙ ap (column_decided_by test (keys_of keys)) (rw (whom, kind, has) refl)
    ∙ ap (column_decided_by test (keys_of keys)) (sym (tagged_first test a (drop (i + 1) aces) bit false))
    ∙ left test keys aces i bit a lt at
    ∙ before

-- no key is added for an ACE that lacks the right, or whose tag is there
pub key_kept : (test : Tag → Bool) (keys : List TagKey) (aces : List TaggedAce) (i bit : ℕ)
    (a : TaggedAce) (whole : Bool) → i < length aces → a ≡ get_or aces i a
    → (has_bit a.mask.bits bit ≡ true → has_tag (tag_of a.whom) (keys_of keys) ≡ true)
    → column_decided_by test (keys_of keys) (column_decided_by test (tagged_column (drop i aces) bit) false) ≡ whole
    → column_decided_by test (keys_of keys) (column_decided_by test (tagged_column (drop (i + 1) aces) bit) false)
    ≡ whole
key_kept test keys aces i bit a whole lt at there before =
    by (has_bit a.mask.bits bit) refl
    ∙ ap (column_decided_by test (keys_of keys)) (sym (tagged_first test a (drop (i + 1) aces) bit false))
    ∙ left test keys aces i bit a lt at
    ∙ before
  where
    rest : Bool
    rest = column_decided_by test (tagged_column (drop (i + 1) aces) bit) false

    by : (h : Bool) → has_bit a.mask.bits bit ≡ h → column_decided_by test (keys_of keys) rest
        ≡ column_decided_by test (keys_of keys)
        (if has_bit a.mask.bits bit && test (tag_of a.whom) then is_allow a.kind else rest)
    by true e = rw e (kept test (tag_of a.whom) (keys_of keys) (is_allow a.kind) rest (there e))
    by false e = rw e refl

-- a key with another tag adds no tag
apart : (key : TagKey) (t : Tag) (keys : List TagKey) → has_tag t (keys_of keys) ≡ false
    → eq_by_cmp tag_cmp (tag_of key.whom) t ≡ false → has_tag t (keys_of (keys ++ key ∷ [])) ≡ false
apart key t [] h e = rw (eq_by_cmp-comm (tag_of key.whom) t e) refl
apart key t (k ∷ keys) h e = both (λ g. apart key t keys g e) (eq_by_cmp tag_cmp t (tag_of k.whom)) h
  where
    both : (has_tag t (keys_of keys) ≡ false → has_tag t (keys_of (keys ++ key ∷ [])) ≡ false)
        → (b : Bool) → (b || has_tag t (keys_of keys)) ≡ false
        → (b || has_tag t (keys_of (keys ++ key ∷ []))) ≡ false
    both others true h = absurd cc
    both others false h = others h

-- if a tag is not there, one more key with this tag leaves each tag once
first_more : (key : TagKey) (keys : List TagKey) → AreFirst (keys_of keys)
    → has_tag (tag_of key.whom) (keys_of keys) ≡ false → AreFirst (keys_of (keys ++ key ∷ []))
first_more key [] first lacking = (refl, tt)
first_more key (k ∷ keys) first lacking = two (λ g. first_more key keys first.1 g)
    (eq_by_cmp tag_cmp (tag_of key.whom) (tag_of k.whom)) refl lacking
  where
    two : (has_tag (tag_of key.whom) (keys_of keys) ≡ false → AreFirst (keys_of (keys ++ key ∷ [])))
        → (b : Bool) → eq_by_cmp tag_cmp (tag_of key.whom) (tag_of k.whom) ≡ b
        → (b || has_tag (tag_of key.whom) (keys_of keys)) ≡ false → AreFirst (keys_of (k ∷ keys ++ key ∷ []))
    two others true e h = absurd cc
    two others false e h = (apart key (tag_of k.whom) keys first.0 e, others h)

-- the same for a list that was made of it
pub still_first : (keys more : List TagKey) (key : TagKey) → AreFirst (keys_of keys)
    → has_tag (tag_of key.whom) (keys_of keys) ≡ false → more ≡ keys ++ key ∷ [] → AreFirst (keys_of more)
still_first keys more key first lacking pushed = rw pushed (first_more key keys first lacking)

-- ---- the steps of the loops

-- the tag is not among the keys that were looked at
pub lacks : (t : Tag) (keys given : List TagKey) (found : Bool) → given ≡ keys → found ≡ has_tag t (keys_of given)
    → found ≡ false → has_tag t (keys_of keys) ≡ false
lacks t keys given found same is none =
    ap (λ (ks : List TagKey). has_tag t (keys_of ks)) (sym same) ∙ sym is ∙ none

-- the tag is among the keys that were looked at
pub there : (t : Tag) (keys given : List TagKey) (found : Bool) → given ≡ keys → found ≡ has_tag t (keys_of given)
    → found ≡ true → has_tag t (keys_of keys) ≡ true
there t keys given found same is some =
    ap (λ (ks : List TagKey). has_tag t (keys_of ks)) (sym same) ∙ sym is ∙ some

-- one more key, for one more ACE
pub length_more : (keys more : List TagKey) (key : TagKey) (n : ℕ) → more ≡ keys ++ key ∷ [] → length keys ≤ n
    → length more ≤ n + 1
length_more keys more key n pushed few =
    let long : length more ≡ length keys + 1 =
    ap (λ (ks : List TagKey). length ks) pushed ∙ length-append keys (key ∷ []) in
    omega (arith, few, long)

-- one more ACE with a tag, and one less in the rest
pub few_more : (aces more : List TaggedAce) (t : TaggedAce) (list rest : List Ace) (a : Ace) (n : ℕ) → list ≡ a ∷ rest
    → more ≡ aces ++ t ∷ [] → length aces + length list ≤ n → length more + length rest ≤ n
few_more aces more t list rest a n next pushed few =
    let long : length more ≡ length aces + 1 =
    ap (λ (xs : List TaggedAce). length xs) pushed ∙ length-append aces (t ∷ []) in
    let short : length list ≡ suc (length rest) = ap (λ (xs : List Ace). length xs) next in
    omega (arith, few, long, short)

-- one less in the rest
pub few_less : (aces : List TaggedAce) (list rest : List Ace) (a : Ace) (n : ℕ) → list ≡ a ∷ rest
    → length aces + length list ≤ n → length aces + length rest ≤ n
few_less aces list rest a n next few =
    let short : length list ≡ suc (length rest) = ap (λ (xs : List Ace). length xs) next in
    omega (arith, few, short)

-- after the last ACE
pub tagged_end : (table : Table) (aces : List TaggedAce) (rest : List Ace) (bit : ℕ) (object : Object)
    (requester : Requester) (whole : Bool) → rest ≡ []
    → column_decided_by (tag_meets object requester) (tagged_column aces bit)
    (grants_bit (with_ids table rest) (by_name object requester) bit) ≡ whole
    → whole ≡ column_decided_by (tag_meets object requester) (tagged_column aces bit) false
tagged_end table aces rest bit object requester whole none before =
    sym before ∙ ap (λ (xs : List Ace). column_decided_by (tag_meets object requester) (tagged_column aces bit)
    (grants_bit (with_ids table xs) (by_name object requester) bit)) none

-- there are no more keys than ACEs
pub few_keys : (aces given : List TaggedAce) (keys : List TagKey) → given ≡ aces → length aces ≤ most_aces
    → length keys ≤ length given → length keys ≤ most_aces
few_keys aces given keys same few short = omega (arith, few, short, ap (λ (xs : List TaggedAce). length xs) same)

-- the keys of one right are its column
pub column_is : (list : List Ace) (bit : ℕ) (aces given : List TaggedAce) (keys : List TagKey) → given ≡ aces
    → ((bit : ℕ) → DecidesColumnAs list bit (tagged_column aces bit)) → length aces ≤ most_aces
    → ((test : Tag → Bool) → column_decided_by test (keys_of keys) false ≡ column_decided_by test
    (tagged_column given bit) false)
    → AreFirst (keys_of keys) → length keys ≤ length given → IsColumnOf list bit keys
column_is list bit aces given keys same decides few alike first short = record {
  decides = λ object requester asked. decides bit object requester asked
      ∙ ap (λ (xs : List TaggedAce). column_decided_by (tag_meets object requester) (tagged_column xs bit) false)
      (sym same)
      ∙ sym (alike (tag_meets object requester));
  first = first;
  few = omega (arith, few, short, ap (λ (xs : List TaggedAce). length xs) same);
}
