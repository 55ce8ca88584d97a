-- Where fewer principals match: the first key that matches stays the first, and an ACL that denies still denies.
use Rattle.std.proofs.Common.{◌≡◌, ◌≤◌, ◌<◌, ◌+◌, ℕ, Bool, true, false, cond, List, [], ◌∷◌, refl, sym, ap, subst, ◌∙◌, arith, inl, inr}
use Rattle.std.proofs.lemmas.Bool.{cases_Bool, eq-eqb, eqb-true, false≢true, or_cases, true≢false}
use Rattle.std.specs.Prelude.{◌⊎◌, ◌==◌, ◌&&◌, ◌||◌, if◌then◌else◌, map, not}
use Rattle.std.specs.List.{AllByRecursion, list_any}
use Rattle.std.specs.Ordering.{eq_by_cmp}
use Rattle.std.specs.FinMap as fin
use Rattle.acl_perm.proofs.Bools.{or_true_right}
use Rattle.acl_perm.specs.Kind.{is_allow}
use Rattle.acl_perm.specs.declared.kind.Kind.{Kind}
use Rattle.acl_posix.specs.Check.{Object, Requester, any_contains, any_matches, entry_contains, is_member, tag_matches}
use Rattle.acl_posix.specs.Entries.{Entries}
use Rattle.acl_posix.specs.Tag.{Tag, user_obj, user, group_obj, group, mask, other, qualifier, tag_cmp}
use Rattle.acl_posix.proofs.Exports.{same_tag}
use Rattle.acl_to_posix.specs.internal.LossBody.{is_allowed_in, lacks, level, certain_place}
use Rattle.acl_to_posix.specs.internal.ShapeBody.{TagColumn, column_decided_by, has_tag, is_certain, tag_meets}
use Rattle.acl_to_posix.proofs.Passes.{eq_by_cmp-refl}
use Rattle.acl_to_posix.proofs.shapes.ShapeChecks.{choice}
use Rattle.acl_eval.proofs.ValidChecks.{mask_contains}

-- ---- the first key that matches stays the first one where fewer match

-- a tag is certain for itself
certain_itself : (t : Tag) → is_certain t t ≡ true
certain_itself t = ap (λ (b : Bool). eq_by_cmp tag_cmp t other || b) (eq_by_cmp-refl t)
    ∙ or_true_right (eq_by_cmp tag_cmp t other)

-- what is certain for a tag matches where it and EVERYONE@ match
certain_meets : (test : Tag → Bool) (t u : Tag) → test other ≡ true → test t ≡ true → is_certain t u ≡ true
    → test u ≡ true
certain_meets test t u all meets h = elim (or_cases (eq_by_cmp tag_cmp u other) (eq_by_cmp tag_cmp u t) h) [
  | inl same ↦ ap test (same_tag u other same) ∙ all
  | inr same ↦ ap test (same_tag u t same) ∙ meets
]

-- one more place, for a key that does not match
next_place : (test : Tag → Bool) (t u : Tag) (k : Kind) (keys : TagColumn) → test other ≡ true → test t ≡ true
    → test u ≡ false → certain_place t ((u, k) ∷ keys) ≡ 1 + certain_place t keys
next_place test t u k keys all meets lacking = elim (cases_Bool (is_certain t u)) [
  | inl certain ↦ absurd (true≢false (sym (certain_meets test t u all meets certain) ∙ lacking))
  | inr not_certain ↦ ap (λ (b : Bool). cond (not b) (1 + certain_place t keys) 0) not_certain
]

-- the key that decides that a column grants: no principal that matches has an earlier place, and the column grants in
-- each test in which its principal matches, and no other that did not match before
pub record IsFirst (test : Tag → Bool) (keys : TagColumn) : Type 0 where
  pub tag : Tag
  pub meets : test tag ≡ true
  pub there : has_tag tag keys ≡ true
  pub before : (t : Tag) → test t ≡ true → certain_place tag keys ≤ certain_place t keys
  pub stays : (fewer : Tag → Bool) → fewer tag ≡ true
      → ((t : Tag) → has_tag t keys ≡ true → fewer t ≡ true → test t ≡ true) → column_decided_by fewer keys false ≡ true

-- a column that grants has a key that decides that it does
pub first_allow : (test : Tag → Bool) (keys : TagColumn) → test other ≡ true → column_decided_by test keys false ≡ true
    → IsFirst test keys
first_allow test [] all h = absurd (false≢true h)
first_allow test ((t, k) ∷ keys) all h = by (first_allow test keys all) (test t) refl h
  where
    by : (column_decided_by test keys false ≡ true → IsFirst test keys) → (b : Bool) → test t ≡ b
        → (if b then is_allow k else column_decided_by test keys false) ≡ true → IsFirst test ((t, k) ∷ keys)
    by rest true e h = record {
      tag = t;
      meets = e;
      there = ap (λ (b : Bool). b || has_tag t keys) (eq_by_cmp-refl t);
      before = λ u m.
          let zero : certain_place t ((t, k) ∷ keys) ≡ 0 =
          ap (λ (b : Bool). cond (not b) (1 + certain_place t keys) 0) (certain_itself t) in
          omega (arith, zero);
      stays = λ fewer m within. ap (λ (b : Bool). if b then is_allow k else column_decided_by fewer keys false) m ∙ h;
    }
    by rest false e h =
        let r = rest h in
        let more = λ (u : Tag) (there : has_tag u keys ≡ true).
        ap (λ (b : Bool). eq_by_cmp tag_cmp u t || b) there ∙ or_true_right (eq_by_cmp tag_cmp u t) in
        record {
          tag = r.tag;
          meets = r.meets;
          there = more r.tag r.there;
          before = λ u m.
              let one = next_place test r.tag t k keys all r.meets e in
              let two = next_place test u t k keys all m e in
              let le = r.before u m in omega (arith, one, two, le);
          stays = λ fewer m within. elim (cases_Bool (fewer t)) [
            | inl matched ↦ absurd (true≢false
                (sym (within t (ap (λ (b : Bool). b || has_tag t keys) (eq_by_cmp-refl t)) matched) ∙ e))
            | inr none ↦ ap (λ (b : Bool). if b then is_allow k else column_decided_by fewer keys false) none
                ∙ r.stays fewer m (λ u there. within u (more u there))
          ];
        }

-- this key allows wherever its principal matches alone
pub first_allows : (test : Tag → Bool) (keys : TagColumn) → test other ≡ true → (f : IsFirst test keys)
    → is_allowed_in f.tag keys ≡ true
first_allows test keys all f =
    f.stays (is_certain f.tag) (certain_itself f.tag)
    (λ t in_keys certain. certain_meets test f.tag t all f.meets certain)

-- ---- entries of an ACL

-- an entry that passes a test: it has what each entry has, and some entry passes each test that it passes
pub record IsSomeEntry (test : Tag → Bool) (es : List (Tag × ℕ)) (fact : Tag → Type 0) : Type 0 where
  pub tag : Tag
  pub passes : test tag ≡ true
  pub has : fact tag
  pub again : (one : Tag → Bool) → one tag ≡ true → list_any (λ entry. one entry.0) es ≡ true

-- if some entry passes the test, there is such an entry
pub some_entry : (test : Tag → Bool) (es : List (Tag × ℕ)) (has : Tag → Type 0)
    → AllByRecursion (λ entry. has entry.0) es → list_any (λ entry. test entry.0) es ≡ true → IsSomeEntry test es has
some_entry test [] has all h = absurd (false≢true h)
some_entry test (e ∷ es) has all h = by (some_entry test es has all.1) (test e.0) refl h
  where
    by : (list_any (λ entry. test entry.0) es ≡ true → IsSomeEntry test es has) → (b : Bool) → test e.0 ≡ b
        → (b || list_any (λ entry. test entry.0) es) ≡ true → IsSomeEntry test (e ∷ es) has
    by rest true p h = record {
      tag = e.0;
      passes = p;
      has = all.0;
      again = λ one m. ap (λ (b : Bool). b || list_any (λ entry. one entry.0) es) m;
    }
    by rest false p h = let r = rest h in record {
      tag = r.tag;
      passes = r.passes;
      has = r.has;
      again = λ one m. ap (λ (b : Bool). one e.0 || b) (r.again one m) ∙ or_true_right (one e.0);
    }

-- the entry of a tag has what each entry has
pub entry_has : (E : Entries) (t : Tag) (has : Tag → Type 0) → AllByRecursion (λ entry. has entry.0) (fin.entries E)
    → fin.contains_key E t ≡ true → has t
entry_has E t has all there = by (fin.entries E) all (sym (fin.contains_key-keys E t) ∙ there)
  where
    by : (es : List (Tag × ℕ)) → AllByRecursion (λ entry. has entry.0) es
        → list_any (eq_by_cmp tag_cmp t) (map (λ entry. entry.0) es) ≡ true → has t
    by [] all h = absurd (false≢true h)
    by (e ∷ es) all h =
        elim (or_cases (eq_by_cmp tag_cmp t e.0) (list_any (eq_by_cmp tag_cmp t) (map (λ entry. entry.0) es)) h) [
          | inl same ↦ subst has (sym (same_tag t e.0 same)) all.0
          | inr more ↦ by es all.1 more
        ]

-- a test of the tags of entries
pub keys_any : (es : List (Tag × ℕ)) (t : Tag)
    → list_any (λ entry. eq_by_cmp tag_cmp t entry.0) es ≡ list_any (eq_by_cmp tag_cmp t) (map (λ entry. entry.0) es)
keys_any [] t = refl
keys_any (e ∷ es) t = ap (λ (b : Bool). eq_by_cmp tag_cmp t e.0 || b) (keys_any es t)

-- if each entry that passes one test passes another, then some entry passes the second if some passes the first
pub any_more : (one two : Tag × ℕ → Bool) (es : List (Tag × ℕ))
    → AllByRecursion (λ entry. one entry ≡ true → two entry ≡ true) es → list_any one es ≡ true → list_any two es ≡ true
any_more one two [] all h = h
any_more one two (e ∷ es) all h = elim (or_cases (one e) (list_any one es) h) [
  | inl here ↦ ap (λ (b : Bool). b || list_any two es) (all.0 here)
  | inr more ↦ ap (λ (b : Bool). two e || b) (any_more one two es all.1 more) ∙ or_true_right (two e)
]

-- what follows from a fact about each entry
pub all_more : (P Q : Tag × ℕ → Type 0) (es : List (Tag × ℕ)) → ((e : Tag × ℕ) → P e → Q e) → AllByRecursion P es
    → AllByRecursion Q es
all_more P Q [] f all = tt
all_more P Q (e ∷ es) f all = (f e all.0, all_more P Q es f all.1)

-- ---- an ACL that denies a requester denies one for whom fewer principals match

-- of the tags with these numbers, only such match in the second situation as match in the first
abbrev pub IsWithin : List ℕ → Object → Requester → Object → Requester → Type 0
IsWithin used object requester object' requester' = (t : Tag) → is_member (qualifier t) used ≡ true
    → tag_meets object' requester' t ≡ true → tag_meets object requester t ≡ true

-- an entry of a group matches if and only if its tag does
pub group_meets : (object : Object) (requester : Requester) (t : Tag)
    → tag_matches object.group requester.groups t ≡ true
    → tag_meets object requester t ≡ true
group_meets object requester user_obj h = absurd (false≢true h)
group_meets object requester (user id) h = absurd (false≢true h)
group_meets object requester group_obj h = h
group_meets object requester (group id) h = h
group_meets object requester mask h = absurd (false≢true h)
group_meets object requester other h = refl

-- of the entries of groups with these numbers, only such match in the second situation as match in the first
pub matches_within : (used : List ℕ) (object : Object) (requester : Requester) (object' : Object)
    (requester' : Requester)
    → IsWithin used object requester object' requester' → (t : Tag) → is_member (qualifier t) used ≡ true
    → tag_matches object'.group requester'.groups t ≡ true → tag_matches object.group requester.groups t ≡ true
matches_within used object requester object' requester' w user_obj u h = absurd (false≢true h)
matches_within used object requester object' requester' w (user id) u h = absurd (false≢true h)
matches_within used object requester object' requester' w group_obj u h = w group_obj u h
matches_within used object requester object' requester' w (group id) u h = w (group id) u h
matches_within used object requester object' requester' w mask u h = absurd (false≢true h)
matches_within used object requester object' requester' w other u h = absurd (false≢true h)

-- a tag of an entry that denies: it has what each entry has
pub record IsDenier (E : Entries) (used : List ℕ) (object : Object) (requester : Requester) (want : ℕ)
    (fact : Tag → Type 0)
    : Type 0 where
  pub tag : Tag
  pub meets : tag_meets object requester tag ≡ true
  pub there : is_member (qualifier tag) used ≡ true
  pub has : fact tag
  pub lacking : lacks E want tag ≡ true
  pub passed : (t : Tag) → tag_meets object requester t ≡ true
      → (level E t < level E tag) ⊎ ((level E t ≡ level E tag) × (lacks E want t ≡ true))
  pub stays : (object' : Object) (requester' : Requester) → IsWithin used object requester object' requester'
      → tag_meets object' requester' tag ≡ true → choice E object' requester' want ≡ false

-- fewer than one that is false
pub less_false : (a b : Bool) → (a ≡ true → b ≡ true) → b ≡ false → a ≡ false
less_false true b f h = absurd (true≢false (sym (f refl) ∙ h))
less_false false b f h = refl

-- the answer of the check by its three tests
pub by_tests : (E : Entries) (object : Object) (requester : Requester) (want : ℕ) (o u m : Bool)
    → (requester.user == object.user) ≡ o → fin.contains_key E (user requester.user) ≡ u
    → any_matches E object.group requester.groups ≡ m
    → choice E object requester want ≡ cond o (entry_contains E user_obj want)
    (cond u (entry_contains E (user requester.user) want && mask_contains E want)
    (cond m (any_contains E object.group requester.groups want && mask_contains E want)
    (entry_contains E other want)))
by_tests E object requester want o u m oe ue me = rw (oe, ue, me) refl

-- less of a part is false
pub less_both : (a b c : Bool) → (a ≡ true → b ≡ true) → (b && c) ≡ false → (a && c) ≡ false
less_both true true c f h = h
less_both true false c f h = absurd (false≢true (f refl))
less_both false b c f h = refl

-- the second requester is not the owner, if the first is not
pub not_owner : (E : Entries) (used : List ℕ) (object : Object) (requester : Requester) (object' : Object)
    (requester' : Requester) → is_member (qualifier user_obj) used ≡ true
    → IsWithin used object requester object' requester' → (requester.user == object.user) ≡ false
    → (requester'.user == object'.user) ≡ false
not_owner E used object requester object' requester' u w h =
    less_false (requester'.user == object'.user) (requester.user == object.user) (w user_obj u) h

-- the second requester has no USER entry, if the first has none
pub no_entry : (E : Entries) (used : List ℕ) (object : Object) (requester : Requester) (object' : Object)
    (requester' : Requester) → ((t : Tag) → fin.contains_key E t ≡ true → is_member (qualifier t) used ≡ true)
    → IsWithin used object requester object' requester' → fin.contains_key E (user requester.user) ≡ false
    → fin.contains_key E (user requester'.user) ≡ false
no_entry E used object requester object' requester' known w h =
    less_false (fin.contains_key E (user requester'.user)) (fin.contains_key E (user requester.user))
    (λ has. ap (λ (n : ℕ). fin.contains_key E (user n))
    (eqb-true requester.user requester'.user (w (user requester'.user) (known (user requester'.user) has)
    (eq-eqb requester'.user requester'.user refl))) ∙ has) h
