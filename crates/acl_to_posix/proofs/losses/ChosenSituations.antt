-- The situation of three tags, in which only their principals match; and that a loss is found in one of these.
use Rattle.std.proofs.Common.{◌≡◌, ℕ, Bool, true, false, List, ◌++◌, refl, sym, ap, subst, ◌∙◌, inl, inr}
use Rattle.std.proofs.lemmas.Bool.{cases_Bool, eq-eqb, eqb-true, false≢true, or_cases, true≢false}
use Rattle.std.proofs.lemmas.List.Folds.{list_any-append}
use Rattle.std.specs.Prelude.{◌⊎◌, ◌==◌, ◌&&◌, ◌||◌, if◌then◌else◌, not}
use Rattle.std.specs.List.{AllByRecursion}
use Rattle.std.specs.FinMap as fin
use Rattle.acl_perm.proofs.Bools.{or_true_right}
use Rattle.acl_posix.specs.Check.{Object, Requester, contains, grants, is_member}
use Rattle.acl_posix.specs.Tag.{Tag, user_obj, user, group_obj, group, mask, other, qualifier}
use Rattle.acl_posix.specs.Valid.{IsValid}
use Rattle.acl_to_posix.specs.internal.LossBody.{AreKept, IsKeptFor, IsKeptWith, LossSearch, are_two_users, chosen_object, chosen_requester, chosen_user, groups_for, is_owner_tag, user_or}
use Rattle.acl_to_posix.specs.internal.ShapeBody.{column_decided_by, has_tag, tag_meets}
use Rattle.acl_to_posix.proofs.losses.FewerMatches.{IsWithin, first_allow, first_allows}
use Rattle.acl_to_posix.proofs.losses.LostGrants.{denier}
use Rattle.acl_to_posix.proofs.shapes.ShapeChecks.{choice, choice_is}
use Rattle.acl_eval.proofs.ValidChecks.{valid_is_complete}
use Rattle.acl_to_posix.proofs.no_greatest.FreeIds.{is_member-append_left, is_member-append_right}

-- three tags whose principals match, and whose numbers are used, while two other numbers are not
record IsChoice (used : List ℕ) (object : Object) (requester : Requester) (one next : ℕ) (a b c : Tag) : Type 0 where
  first : tag_meets object requester a ≡ true
  second : tag_meets object requester b ≡ true
  third : tag_meets object requester c ≡ true
  first_used : is_member (qualifier a) used ≡ true
  second_used : is_member (qualifier b) used ≡ true
  third_used : is_member (qualifier c) used ≡ true
  one_free : is_member one used ≡ false
  next_free : is_member next used ≡ false
  differ : (one == next) ≡ false

-- a number that is used is not one that is unused
used_apart : (used : List ℕ) (n m : ℕ) → is_member n used ≡ true → is_member m used ≡ false → n ≡ m → ⊥
used_apart used n m u f e = true≢false (sym u ∙ (ap (λ (k : ℕ). is_member k used) e ∙ f))

-- ---- the user

-- who requests is the requester, or has an unused id
abbrev IsAsker : List ℕ → Requester → ℕ → ℕ → Type 0
IsAsker used requester one n = (n ≡ one) ⊎ ((n ≡ requester.user) × (is_member n used ≡ true))

-- so is the user of a used tag that matches, or the same one if the tag has no user
asker_or : (used : List ℕ) (object : Object) (requester : Requester) (one : ℕ) (t : Tag) (rest : ℕ)
    → tag_meets object requester t ≡ true → is_member (qualifier t) used ≡ true → IsAsker used requester one rest
    → IsAsker used requester one (user_or t rest)
asker_or used object requester one user_obj rest m u h = h
asker_or used object requester one (user id) rest m u h = inr (sym (eqb-true requester.user id m), u)
asker_or used object requester one group_obj rest m u h = h
asker_or used object requester one (group id) rest m u h = h
asker_or used object requester one mask rest m u h = h
asker_or used object requester one other rest m u h = h

-- the user chosen for three tags is the requester, or has the unused id
chosen_asker : (used : List ℕ) (object : Object) (requester : Requester) (one next : ℕ) (a b c : Tag)
    → IsChoice used object requester one next a b c → IsAsker used requester one (chosen_user one a b c)
chosen_asker used object requester one next a b c i =
    asker_or used object requester one a _ i.first i.first_used
    (asker_or used object requester one b _ i.second i.second_used
    (asker_or used object requester one c one i.third i.third_used (inl refl)))

-- a user who is the requester stays the one who requests, whatever tags are before
keeps_asker : (object : Object) (requester : Requester) (t : Tag) (rest : ℕ) → tag_meets object requester t ≡ true
    → rest ≡ requester.user → user_or t rest ≡ requester.user
keeps_asker object requester user_obj rest m h = h
keeps_asker object requester (user id) rest m h = sym (eqb-true requester.user id m)
keeps_asker object requester group_obj rest m h = h
keeps_asker object requester (group id) rest m h = h
keeps_asker object requester mask rest m h = h
keeps_asker object requester other rest m h = h

-- ---- only their principals match

-- one of three
or_cases-three : (a b c : Bool) → (a || b || c) ≡ true → (a ≡ true) ⊎ ((b ≡ true) ⊎ (c ≡ true))
or_cases-three true b c h = inl refl
or_cases-three false true c h = inr (inl refl)
or_cases-three false false true h = inr (inr refl)
or_cases-three false false false h = absurd (false≢true h)

-- a requester whom the tag of OWNER@ matches is the owner
owner_meets : (object : Object) (requester : Requester) (t : Tag) → is_owner_tag t ≡ true
    → tag_meets object requester t ≡ true → (requester.user == object.user) ≡ true
owner_meets object requester user_obj h m = m
owner_meets object requester (user id) h m = absurd (false≢true h)
owner_meets object requester group_obj h m = absurd (false≢true h)
owner_meets object requester (group id) h m = absurd (false≢true h)
owner_meets object requester mask h m = absurd (false≢true h)
owner_meets object requester other h m = absurd (false≢true h)

-- the owner requests only if one of the tags is that of OWNER@
owner_within : (used : List ℕ) (object : Object) (requester : Requester) (one next : ℕ) (a b c : Tag)
    → IsChoice used object requester one next a b c
    → (chosen_user one a b c
    == (if is_owner_tag a || is_owner_tag b || is_owner_tag c then chosen_user one a b c else next)) ≡ true
    → (requester.user == object.user) ≡ true
owner_within used object requester one next a b c i h =
    by (is_owner_tag a || is_owner_tag b || is_owner_tag c) refl h
  where
    by : (o : Bool) → (is_owner_tag a || is_owner_tag b || is_owner_tag c) ≡ o
        → (chosen_user one a b c == (if o then chosen_user one a b c else next)) ≡ true
        → (requester.user == object.user) ≡ true
    by true e h = elim (or_cases-three (is_owner_tag a) (is_owner_tag b) (is_owner_tag c) e) [
      | inl o ↦ owner_meets object requester a o i.first
      | inr more ↦ elim more [
        | inl o ↦ owner_meets object requester b o i.second
        | inr o ↦ owner_meets object requester c o i.third
      ]
    ]
    by false e h =
        let same : chosen_user one a b c ≡ next = eqb-true (chosen_user one a b c) next h in
        elim (chosen_asker used object requester one next a b c i) [
          | inl is ↦ absurd (true≢false (sym (eq-eqb one next (sym is ∙ same)) ∙ i.differ))
          | inr is ↦ absurd (used_apart used (chosen_user one a b c) next is.1 i.next_free same)
        ]

-- a member of the groups of one tag
of_tag : (object : Object) (requester : Requester) (used : List ℕ) (one n : ℕ) (t : Tag)
    → tag_meets object requester t ≡ true
    → is_member (qualifier t) used ≡ true → is_member one used ≡ false → is_member n used ≡ true
    → is_member n (groups_for one t) ≡ true → is_member n requester.groups ≡ true
of_tag object requester used one n user_obj m u f v h = absurd (false≢true h)
of_tag object requester used one n (user id) m u f v h = absurd (false≢true h)
of_tag object requester used one n group_obj m u f v h = elim (or_cases (one == n) false h) [
  | inl same ↦ absurd (used_apart used n one v f (sym (eqb-true one n same)))
  | inr none ↦ absurd (false≢true none)
]
of_tag object requester used one n (group id) m u f v h = elim (or_cases (id == n) false h) [
  | inl same ↦ subst (λ (k : ℕ). is_member k requester.groups ≡ true) (eqb-true id n same) m
  | inr none ↦ absurd (false≢true none)
]
of_tag object requester used one n mask m u f v h = absurd (false≢true h)
of_tag object requester used one n other m u f v h = absurd (false≢true h)

-- the owning group among them
own_of_tag : (object : Object) (requester : Requester) (used : List ℕ) (one : ℕ) (t : Tag)
    → tag_meets object requester t ≡ true → is_member (qualifier t) used ≡ true → is_member one used ≡ false
    → is_member one (groups_for one t) ≡ true → is_member object.group requester.groups ≡ true
own_of_tag object requester used one user_obj m u f h = absurd (false≢true h)
own_of_tag object requester used one (user id) m u f h = absurd (false≢true h)
own_of_tag object requester used one group_obj m u f h = m
own_of_tag object requester used one (group id) m u f h = elim (or_cases (id == one) false h) [
  | inl same ↦ absurd (used_apart used id one u f (eqb-true id one same))
  | inr none ↦ absurd (false≢true none)
]
own_of_tag object requester used one mask m u f h = absurd (false≢true h)
own_of_tag object requester used one other m u f h = absurd (false≢true h)

-- a member of three lists together is one of one of them
of_three : (n : ℕ) (xs ys zs : List ℕ) → is_member n ((xs ++ ys) ++ zs) ≡ true
    → (is_member n xs ≡ true) ⊎ ((is_member n ys ≡ true) ⊎ (is_member n zs ≡ true))
of_three n xs ys zs h =
    elim (or_cases (is_member n (xs ++ ys)) (is_member n zs)
    (sym (list_any-append (λ (x : ℕ). x == n) (xs ++ ys) zs) ∙ h)) [
      | inl two ↦
          elim (or_cases (is_member n xs) (is_member n ys) (sym (list_any-append (λ (x : ℕ). x == n) xs ys) ∙ two)) [
            | inl here ↦ inl here
            | inr here ↦ inr (inl here)
          ]
      | inr here ↦ inr (inr here)
    ]

-- of the tags whose numbers are used, only such match in the situation as match in the first one
chosen_within : (used : List ℕ) (object : Object) (requester : Requester) (one next : ℕ) (a b c : Tag)
    → IsChoice used object requester one next a b c
    → IsWithin used object requester (chosen_object one next a b c) (chosen_requester one a b c)
chosen_within used object requester one next a b c i user_obj u h =
    owner_within used object requester one next a b c i h
chosen_within used object requester one next a b c i (user w) u h =
    let same : chosen_user one a b c ≡ w = eqb-true (chosen_user one a b c) w h in
    elim (chosen_asker used object requester one next a b c i) [
      | inl is ↦ absurd (used_apart used w one u i.one_free (sym same ∙ is))
      | inr is ↦ eq-eqb requester.user w (sym is.0 ∙ same)
    ]
chosen_within used object requester one next a b c i group_obj u h =
    elim (of_three one (groups_for one a) (groups_for one b) (groups_for one c) h) [
      | inl here ↦ own_of_tag object requester used one a i.first i.first_used i.one_free here
      | inr more ↦ elim more [
        | inl here ↦ own_of_tag object requester used one b i.second i.second_used i.one_free here
        | inr here ↦ own_of_tag object requester used one c i.third i.third_used i.one_free here
      ]
    ]
chosen_within used object requester one next a b c i (group w) u h =
    elim (of_three w (groups_for one a) (groups_for one b) (groups_for one c) h) [
      | inl here ↦ of_tag object requester used one w a i.first i.first_used i.one_free u here
      | inr more ↦ elim more [
        | inl here ↦ of_tag object requester used one w b i.second i.second_used i.one_free u here
        | inr here ↦ of_tag object requester used one w c i.third i.third_used i.one_free u here
      ]
    ]
chosen_within used object requester one next a b c i mask u h = absurd (false≢true h)
chosen_within used object requester one next a b c i other u h = refl

-- ---- and their principals do match

-- a tag whose user, or whose group, the situation has
record IsIn (object : Object) (requester : Requester) (one : ℕ) (a b c t : Tag) : Type 0 where
  owner : is_owner_tag t ≡ true → (is_owner_tag a || is_owner_tag b || is_owner_tag c) ≡ true
  user : (id : ℕ) → t ≡ user id → chosen_user one a b c ≡ requester.user
  groups : (n : ℕ) → is_member n (groups_for one t) ≡ true
      → is_member n ((groups_for one a ++ groups_for one b) ++ groups_for one c) ≡ true

-- such a tag that matches the requester matches in the chosen situation, too
chosen_meets : (object : Object) (requester : Requester) (one next : ℕ) (a b c t : Tag)
    → IsIn object requester one a b c t → tag_meets object requester t ≡ true
    → tag_meets (chosen_object one next a b c) (chosen_requester one a b c) t ≡ true
chosen_meets object requester one next a b c user_obj i m =
    ap (λ (o : Bool). chosen_user one a b c == (if o then chosen_user one a b c else next)) (i.owner refl)
    ∙ eq-eqb (chosen_user one a b c) (chosen_user one a b c) refl
chosen_meets object requester one next a b c (user id) i m =
    eq-eqb (chosen_user one a b c) id (i.user id refl ∙ eqb-true requester.user id m)
chosen_meets object requester one next a b c group_obj i m =
    i.groups one (ap (λ (b : Bool). b || false) (eq-eqb one one refl))
chosen_meets object requester one next a b c (group id) i m =
    i.groups id (ap (λ (b : Bool). b || false) (eq-eqb id id refl))
chosen_meets object requester one next a b c mask i m = absurd (false≢true m)
chosen_meets object requester one next a b c other i m = refl

-- the user of a USER tag that matches is the requester
user_is : (object : Object) (requester : Requester) (t : Tag) (id rest : ℕ) → t ≡ user id
    → tag_meets object requester t ≡ true → user_or t rest ≡ requester.user
user_is object requester t id rest e m =
    ap (λ (u : Tag). user_or u rest) e
    ∙ sym (eqb-true requester.user id (ap (tag_meets object requester) (sym e) ∙ m))

-- the situation has the user, or the group, of the first of its three tags
first_in : (used : List ℕ) (object : Object) (requester : Requester) (one next : ℕ) (a b c : Tag)
    → IsChoice used object requester one next a b c → IsIn object requester one a b c a
first_in used object requester one next a b c i = record {
  owner = λ h. ap (λ (x : Bool). x || is_owner_tag b || is_owner_tag c) h;
  user = λ id e. user_is object requester a id _ e i.first;
  groups = λ n h. is_member-append_left n _ (groups_for one c)
      (is_member-append_left n (groups_for one a) (groups_for one b) h);
}

-- it has those of the second
second_in : (used : List ℕ) (object : Object) (requester : Requester) (one next : ℕ) (a b c : Tag)
    → IsChoice used object requester one next a b c → IsIn object requester one a b c b
second_in used object requester one next a b c i = record {
  owner = λ h. ap (λ (x : Bool). (is_owner_tag a || x) || is_owner_tag c) h
      ∙ ap (λ (x : Bool). x || is_owner_tag c) (or_true_right (is_owner_tag a));
  user = λ id e. keeps_asker object requester a _ i.first (user_is object requester b id _ e i.second);
  groups = λ n h. is_member-append_left n _ (groups_for one c)
      (is_member-append_right n (groups_for one a) (groups_for one b) h);
}

-- it has those of the third
third_in : (used : List ℕ) (object : Object) (requester : Requester) (one next : ℕ) (a b c : Tag)
    → IsChoice used object requester one next a b c → IsIn object requester one a b c c
third_in used object requester one next a b c i = record {
  owner = λ h. ap (λ (x : Bool). (is_owner_tag a || is_owner_tag b) || x) h
      ∙ or_true_right (is_owner_tag a || is_owner_tag b);
  user = λ id e. keeps_asker object requester a _ i.first (keeps_asker object requester b _ i.second
      (user_is object requester c id _ e i.third));
  groups = λ n h. is_member-append_right n (groups_for one a ++ groups_for one b) (groups_for one c) h;
}

-- ---- a loss is found

-- the numbers of the tags of a search are used, and its two ids are not
pub record IsNamed (s : LossSearch) (used : List ℕ) : Type 0 where
  pub first : (t : Tag) → has_tag t s.first ≡ true → is_member (qualifier t) used ≡ true
  pub second : (t : Tag) → has_tag t s.second ≡ true → is_member (qualifier t) used ≡ true
  pub entries : AllByRecursion (λ entry. is_member (qualifier entry.0) used ≡ true) (fin.entries s.entries)
  pub one_free : is_member s.one used ≡ false
  pub next_free : is_member s.next used ≡ false
  pub differ : (s.one == s.next) ≡ false

-- two users who both match are one
one_user : (object : Object) (requester : Requester) (a b : Tag) → tag_meets object requester a ≡ true
    → tag_meets object requester b ≡ true → are_two_users a b ≡ false
one_user object requester user_obj b m n = refl
one_user object requester (user id) user_obj m n = refl
one_user object requester (user id) (user one) m n =
    ap (λ (x : Bool). not x) (eq-eqb id one (sym (eqb-true requester.user id m) ∙ eqb-true requester.user one n))
one_user object requester (user id) group_obj m n = refl
one_user object requester (user id) (group one) m n = refl
one_user object requester (user id) mask m n = refl
one_user object requester (user id) other m n = refl
one_user object requester group_obj b m n = refl
one_user object requester (group id) b m n = refl
one_user object requester mask b m n = refl
one_user object requester other b m n = refl

-- if no situation of three tags is a loss, the ACL grants the permission wherever both columns grant
pub nothing_lost : (s : LossSearch) (used : List ℕ) → IsValid s.entries → contains 7 s.want ≡ true → IsNamed s used
    → AreKept s (fin.entries s.entries) → (object : Object) (requester : Requester)
    → column_decided_by (tag_meets object requester) s.first false ≡ true
    → column_decided_by (tag_meets object requester) s.second false ≡ true
    → grants s.entries object requester s.want ≡ true
nothing_lost s used valid whole named kept object requester g h =
    elim (cases_Bool (choice s.entries object requester s.want)) [
      | inl granted ↦ sym (choice_is s.entries object requester s.want valid whole) ∙ granted
      | inr denied ↦
          let a = first_allow (tag_meets object requester) s.first refl g in
          let b = first_allow (tag_meets object requester) s.second refl h in
          let c = denier s.entries used object requester s.want (IsKeptFor s)
          (valid_is_complete s.entries valid) whole named.entries kept denied in
          let kept_here : IsKeptWith s a.tag b.tag c.tag = c.has a.tag b.tag (record {
            first = a.there;
            first_allows = first_allows (tag_meets object requester) s.first refl a;
            second = b.there;
            second_allows = first_allows (tag_meets object requester) s.second refl b;
            lacking = c.lacking;
            first_denied = a.before c.tag c.meets;
            second_denied = b.before c.tag c.meets;
            first_second = a.before b.tag b.meets;
            second_first = b.before a.tag a.meets;
            passed_first = c.passed a.tag a.meets;
            passed_second = c.passed b.tag b.meets;
            one_user = one_user object requester a.tag b.tag a.meets b.meets;
            one_user_first = one_user object requester a.tag c.tag a.meets c.meets;
            one_user_second = one_user object requester b.tag c.tag b.meets c.meets;
          }) in
          let i : IsChoice used object requester s.one s.next a.tag b.tag c.tag = record {
            first = a.meets;
            second = b.meets;
            third = c.meets;
            first_used = named.first a.tag a.there;
            second_used = named.second b.tag b.there;
            third_used = c.there;
            one_free = named.one_free;
            next_free = named.next_free;
            differ = named.differ;
          } in
          let within = chosen_within used object requester s.one s.next a.tag b.tag c.tag i in
          let there = chosen_object s.one s.next a.tag b.tag c.tag in
          let who = chosen_requester s.one a.tag b.tag c.tag in
          let one = a.stays (tag_meets there who)
          (chosen_meets object requester s.one s.next a.tag b.tag c.tag a.tag
          (first_in used object requester s.one s.next a.tag b.tag c.tag i) a.meets)
          (λ t in_keys m. within t (named.first t in_keys) m) in
          let two = b.stays (tag_meets there who)
          (chosen_meets object requester s.one s.next a.tag b.tag c.tag b.tag
          (second_in used object requester s.one s.next a.tag b.tag c.tag i) b.meets)
          (λ t in_keys m. within t (named.second t in_keys) m) in
          let three = sym (choice_is s.entries there who s.want valid whole)
          ∙ c.stays there who within (chosen_meets object requester s.one s.next a.tag b.tag c.tag c.tag
          (third_in used object requester s.one s.next a.tag b.tag c.tag i) c.meets) in
          absurd (true≢false (sym (all_three _ _ _ one two three) ∙ kept_here))
    ]
  where
    all_three : (x y z : Bool) → x ≡ true → y ≡ true → z ≡ false → (x && (y && not z)) ≡ true
    all_three x y z p q r = rw (p, q, r) refl
