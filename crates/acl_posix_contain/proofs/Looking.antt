-- The access check grants a request if and only if an entry at which it looks grants it.
use Rattle.std.proofs.Common.{◌≡◌, ℕ, Bool, true, false, cond, List, [], ◌∷◌, Option, None, Some, refl, sym, ap, ◌∙◌, inl, inr}
use Rattle.std.proofs.lemmas.Bool.{eq-eqb, eqb-true, false≢true, not-true, or_cases}
use Rattle.std.specs.Prelude.{◌⊎◌, ◌==◌, ◌&&◌, ◌||◌, is_some, not}
use Rattle.std.specs.Int.Bits.{and_zero_r}
use Rattle.std.specs.List.{list_any}
use Rattle.std.specs.Ordering.{eq_by_cmp}
use Rattle.std.specs.FinMap as fin
use Rattle.acl_perm.proofs.Bools.{and_true, not_false, or_true_right}
use Rattle.acl_posix.specs.Check.{Object, Requester, any_contains, any_matches, class_contains, entry_contains, grants, is_contained, is_member}
use Rattle.acl_posix.specs.Entries.{Entries, tags}
use Rattle.acl_posix.specs.Tag.{Tag, user_obj, user, group_obj, group, mask, other, is_named, tag_cmp}
use Rattle.acl_posix.specs.Valid.{IsValid, missing}
use Rattle.acl_posix.specs.internal.GroupAnswers.{stranger_grants}
use Rattle.acl_posix.specs.internal.GroupSearch.{group_contains}
use Rattle.acl_posix.proofs.Exports.{any_group, contained_some, contains_empty, same_tag}
use Rattle.acl_posix_contain.specs.internal.Limits.{holds, is_stranger, is_looked_at, mask_contains}

-- ---- members

-- some member of a list passes a test
pub any_member : (p : ℕ → Bool) (xs : List ℕ) (n : ℕ) → is_member n xs ≡ true → p n ≡ true → list_any p xs ≡ true
any_member p [] n has h = absurd (false≢true has)
any_member p (x ∷ xs) n has h = by (λ g. any_member p xs n g h) (x == n) refl has
  where
    by : (is_member n xs ≡ true → list_any p xs ≡ true) → (b : Bool) → (x == n) ≡ b → (b || is_member n xs) ≡ true
        → (p x || list_any p xs) ≡ true
    by rest true e has = ap (λ (b : Bool). b || list_any p xs) (ap p (eqb-true x n e) ∙ h)
    by rest false e has = ap (λ (b : Bool). p x || b) (rest has) ∙ or_true_right (p x)

-- if some element passes a test, there is a member that does
pub some_member : (p : ℕ → Bool) (xs : List ℕ) → list_any p xs ≡ true → (n : ℕ) × (is_member n xs ≡ true) × (p n ≡ true)
some_member p [] h = absurd (false≢true h)
some_member p (x ∷ xs) h = by (some_member p xs) (p x) refl h
  where
    by : (list_any p xs ≡ true → (n : ℕ) × (is_member n xs ≡ true) × (p n ≡ true)) → (b : Bool) → p x ≡ b
        → (b || list_any p xs) ≡ true → (n : ℕ) × (is_member n (x ∷ xs) ≡ true) × (p n ≡ true)
    by rest true e h = (x, ap (λ (b : Bool). b || is_member x xs) (eq-eqb x x refl), e)
    by rest false e h = let (n, has, passes) = rest h in
        (n, ap (λ (b : Bool). (x == n) || b) has ∙ or_true_right (x == n), passes)

-- two tests that agree pass alike
pub any_same : (p q : ℕ → Bool) (xs : List ℕ) → ((n : ℕ) → p n ≡ q n) → list_any p xs ≡ list_any q xs
any_same p q [] same = refl
any_same p q (x ∷ xs) same = ap (λ (b : Bool). b || list_any p xs) (same x)
    ∙ ap (λ (b : Bool). q x || b) (any_same p q xs same)

-- ---- what a valid set has

-- there is GROUP_OBJ, and MASK if there is a USER or GROUP
pub record Complete (E : Entries) : Type 0 where
  pub group : fin.contains_key E group_obj ≡ true
  pub masked : (t : Tag) → is_named t ≡ true → fin.contains_key E t ≡ true → fin.contains_key E mask ≡ true

-- a list of entries in which a USER or GROUP is found has a named entry
named_there : (l : Tag) (ps : List (Tag × ℕ)) → is_named l ≡ true → is_some (fin.find tag_cmp l ps) ≡ true
    → list_any is_named (tags ps) ≡ true
named_there l [] named h = absurd (false≢true h)
named_there l (p ∷ ps) named h =
    elim (eq_by_cmp tag_cmp l p.0) as (λ t. eq_by_cmp tag_cmp l p.0 ≡ t
    → is_some (cond t (Some p.1) (fin.find tag_cmp l ps)) ≡ true
    → (is_named p.0 || list_any is_named (tags ps)) ≡ true) [
      | true ↦ λ same _. ap (λ (b : Bool). b || list_any is_named (tags ps))
          (ap is_named (sym (same_tag l p.0 same)) ∙ named)
      | false ↦ λ same more. ap (λ (b : Bool). is_named p.0 || b) (named_there l ps named more)
          ∙ or_true_right (is_named p.0)
    ] refl h

-- a valid set has all of that
pub valid_is_complete : (E : Entries) → IsValid E → Complete E
unfolding missing
valid_is_complete E v =
    let p = parts (is_some (fin.get E user_obj)) (is_some (fin.get E group_obj)) (is_some (fin.get E other))
    (list_any is_named (fin.keys E) && not (is_some (fin.get E mask))) v in
    record {
      group = p.0;
      masked = λ t named h. not_false (is_some (fin.get E mask))
          (sym (ap (λ (b : Bool). b && not (is_some (fin.get E mask)))
          (named_there t (fin.entries E) named (ap (λ (o : Option ℕ). is_some o) (sym (fin.get-entries E t)) ∙ h)))
          ∙ p.1);
    }
  where
    parts : (a b c d : Bool) → cond (not a) (Some user_obj) (cond (not b) (Some group_obj)
        (cond (not c) (Some other) (cond d (Some mask) None))) ≡ None → (b ≡ true) × (d ≡ false)
    parts false b c d h = absurd cc
    parts true false c d h = absurd cc
    parts true true false d h = absurd cc
    parts true true true true h = absurd cc
    parts true true true false h = (refl, refl)

-- ---- a requester whom neither USER_OBJ nor a USER entry is about

-- an entry contains the empty request if and only if it is there
pub contains_nothing : (o : Option ℕ) → is_contained o 0 ≡ is_some o
contains_nothing None = refl
contains_nothing (Some n) = rw (and_zero_r n) refl

-- an entry matches if and only if one does by a group of the requester
pub matched : (E : Entries) (og : ℕ) (gs : List ℕ) → any_matches E og gs ≡ list_any (group_contains E og 0) gs
matched E og gs = sym (contains_empty E og gs) ∙ sym (any_group E og 0 gs)

-- by a group, an entry that matches grants the request
abbrev pub group_holds : Entries → ℕ → ℕ → ℕ → Bool
group_holds E og request id = ((id == og) && holds E group_obj request) || holds E (group id) request

-- MASK contains a request if there is a MASK and it is one that passes
masks : (E : Entries) (request : ℕ) → fin.contains_key E mask ≡ true → mask_contains E request ≡ true
    → entry_contains E mask request ≡ true
masks E request has m = sym (ap (λ (b : Bool). cond b (entry_contains E mask request) true) has) ∙ m

-- what an entry that matches by a group says about the parts of the check
record ClassParts (E : Entries) (og request id : ℕ) : Type 0 where
  matches : group_contains E og 0 id ≡ true
  contains : group_contains E og request id ≡ true
  masked : mask_contains E request ≡ true
  unmasked : fin.contains_key E mask ≡ false → entry_contains E group_obj request ≡ true

-- such an entry says all of that
class_parts : (E : Entries) (og request id : ℕ) → Complete E → group_holds E og request id ≡ true
    → ClassParts E og request id
class_parts E og request id c h =
    elim (or_cases ((id == og) && holds E group_obj request) (holds E (group id) request) h) [
      | inl owning ↦
          let one = and_true (id == og) (holds E group_obj request) owning in
          let two = and_true (entry_contains E group_obj request) (mask_contains E request) one.1 in record {
            matches = rw (one.0, contains_nothing (fin.get E group_obj) ∙ c.group) refl;
            contains = rw (one.0, two.0) refl;
            masked = two.1;
            unmasked = λ _. two.0;
          }
      | inr named ↦
          let two = and_true (entry_contains E (group id) request) (mask_contains E request) named in
          let there = contained_some (fin.get E (group id)) request two.0 in record {
            matches = rw (contains_nothing (fin.get E (group id)) ∙ there) (or_true_right _);
            contains = rw two.0 (or_true_right _);
            masked = two.1;
            unmasked = λ none. absurd (false≢true (sym none ∙ c.masked (group id) refl there));
          }
    ]

-- a requester in a group by which an entry grants the request is granted it
pub granted_by_group : (E : Entries) (og : ℕ) (gs : List ℕ) (request id : ℕ) → Complete E → is_member id gs ≡ true
    → group_holds E og request id ≡ true → stranger_grants E og gs request ≡ true
unfolding stranger_grants
granted_by_group E og gs request id c has h =
    let p = class_parts E og request id c h in
    let m = matched E og gs ∙ any_member (group_contains E og 0) gs id has p.matches in
    let found = sym (any_group E og request gs) ∙ any_member (group_contains E og request) gs id has p.contains in
    ap (λ (b : Bool). cond b (class_contains E og gs request) (entry_contains E other request)) m
    ∙ by (fin.contains_key E mask) refl found p
  where
    by : (b : Bool) → fin.contains_key E mask ≡ b → any_contains E og gs request ≡ true
        → ClassParts E og request id
        → cond b (entry_contains E mask request && any_contains E og gs request) (entry_contains E group_obj request)
        ≡ true
    by true e found p = rw (masks E request e p.masked, found) refl
    by false e found p = p.unmasked e

-- a requester whom no entry matches is granted what OTHER grants
pub granted_by_other : (E : Entries) (og : ℕ) (gs : List ℕ) (request : ℕ) → any_matches E og gs ≡ false
    → entry_contains E other request ≡ true → stranger_grants E og gs request ≡ true
unfolding stranger_grants
granted_by_other E og gs request none h =
    ap (λ (b : Bool). cond b (class_contains E og gs request) (entry_contains E other request)) none ∙ h

-- who grants a request to a requester: an entry that matches by a group, or OTHER
abbrev pub Grantor : Entries → ℕ → List ℕ → ℕ → Type 0
Grantor E og gs request = ((id : ℕ) × (is_member id gs ≡ true) × (group_holds E og request id ≡ true))
    ⊎ ((any_matches E og gs ≡ false) × (entry_contains E other request ≡ true))

-- by a group whose entry contains the request
by_group : (E : Entries) (og request id : ℕ) → mask_contains E request ≡ true
    → group_contains E og request id ≡ true → group_holds E og request id ≡ true
by_group E og request id m h =
    elim (or_cases ((id == og) && entry_contains E group_obj request) (entry_contains E (group id) request) h) [
      | inl owning ↦
          let two = and_true (id == og) (entry_contains E group_obj request) owning in rw (two.0, two.1, m) refl
      | inr named ↦ rw (named, m) (or_true_right _)
    ]

-- without MASK, by the owning group
by_owning : (E : Entries) (og request id : ℕ) → Complete E → fin.contains_key E mask ≡ false
    → entry_contains E group_obj request ≡ true → group_contains E og 0 id ≡ true
    → group_holds E og request id ≡ true
by_owning E og request id c none held h =
    elim (or_cases ((id == og) && entry_contains E group_obj 0) (entry_contains E (group id) 0) h) [
      | inl owning ↦
          let two = and_true (id == og) (entry_contains E group_obj 0) owning in rw (two.0, held, none) refl
      | inr named ↦ absurd (false≢true (sym none
          ∙ c.masked (group id) refl (contained_some (fin.get E (group id)) 0 named)))
    ]

-- each requester who is granted a request has a grantor
pub grantor : (E : Entries) (og : ℕ) (gs : List ℕ) (request : ℕ) → Complete E
    → stranger_grants E og gs request ≡ true → Grantor E og gs request
unfolding stranger_grants
grantor E og gs request c h = by (any_matches E og gs) (fin.contains_key E mask) refl refl h
  where
    by : (m k : Bool) → any_matches E og gs ≡ m → fin.contains_key E mask ≡ k
        → cond m (cond k (entry_contains E mask request && any_contains E og gs request)
        (entry_contains E group_obj request)) (entry_contains E other request) ≡ true
        → Grantor E og gs request
    by false k me ke h = inr (me, h)
    by true true me ke h =
        let two = and_true (entry_contains E mask request) (any_contains E og gs request) h in
        let (id, has, found) = some_member (group_contains E og request) gs (any_group E og request gs ∙ two.1) in
        inl (id, has, by_group E og request id (rw (ke, two.0) refl) found)
    by true false me ke h =
        let (id, has, found) = some_member (group_contains E og 0) gs (sym (matched E og gs) ∙ me) in
        inl (id, has, by_owning E og request id c ke h found)

-- ---- every requester

-- the two parts of such a requester
pub outside : (E : Entries) (o : Object) (q : Requester) → is_stranger E o q ≡ true
    → ((q.user == o.user) ≡ false) × (fin.contains_key E (user q.user) ≡ false)
outside E o q h =
    let two = and_true (not (q.user == o.user)) (not (fin.contains_key E (user q.user))) h in
    (not-true _ two.0, not-true _ two.1)

-- such a requester is answered by groups and OTHER
pub stranger_is : (E : Entries) (o : Object) (q : Requester) (request : ℕ) → is_stranger E o q ≡ true
    → grants E o q request ≡ stranger_grants E o.group q.groups request
unfolding grants stranger_grants
stranger_is E o q request h = let two = outside E o q h in rw (two.0, two.1) refl

-- a requester who is granted a request is granted it by an entry at which the check looks
pub record IsLookedAt (E : Entries) (o : Object) (q : Requester) (request : ℕ) : Type 0 where
  pub tag : Tag
  pub looks : is_looked_at E o q tag ≡ true
  pub grants : holds E tag request ≡ true

-- so is one whom neither USER_OBJ nor a USER entry is about
looked_class : (E : Entries) (o : Object) (q : Requester) (request : ℕ) → is_stranger E o q ≡ true
    → Grantor E o.group q.groups request → IsLookedAt E o q request
looked_class E o q request outer (inl (id, has, h)) =
    elim (or_cases ((id == o.group) && holds E group_obj request) (holds E (group id) request) h) [
      | inl owning ↦
          let two = and_true (id == o.group) (holds E group_obj request) owning in record {
            tag = group_obj;
            looks = rw outer (ap (λ (n : ℕ). is_member n q.groups) (sym (eqb-true id o.group two.0)) ∙ has);
            grants = two.1;
          }
      | inr named ↦ record { tag = group id; looks = rw (outer, has) refl; grants = named }
    ]
looked_class E o q request outer (inr (none, h)) =
    record { tag = other; looks = rw (outer, none) refl; grants = rw h refl }

-- each granted request is such a request
pub looked : (E : Entries) (o : Object) (q : Requester) (request : ℕ) → Complete E → grants E o q request ≡ true
    → IsLookedAt E o q request
unfolding grants
looked E o q request c h = by (q.user == o.user) (fin.contains_key E (user q.user)) refl refl h
  where
    by : (m k : Bool) → (q.user == o.user) ≡ m → fin.contains_key E (user q.user) ≡ k
        → cond m (entry_contains E user_obj request) (cond k (entry_contains E (user q.user) request
        && entry_contains E mask request) (cond (any_matches E o.group q.groups)
        (class_contains E o.group q.groups request) (entry_contains E other request))) ≡ true
        → IsLookedAt E o q request
    by true k me ke h = record { tag = user_obj; looks = me; grants = rw h refl }
    by false true me ke h =
        let two = and_true (entry_contains E (user q.user) request) (entry_contains E mask request) h in record {
          tag = user q.user;
          looks = rw (me, eq-eqb q.user q.user refl) refl;
          grants = rw (two.0, c.masked (user q.user) refl ke, two.1) refl;
        }
    by false false me ke h =
        let outer : is_stranger E o q ≡ true = rw (me, ke) refl in
        looked_class E o q request outer (grantor E o.group q.groups request c
        (sym (stranger_is E o q request outer) ∙ rw (me, ke) h))

-- a request that an entry at which the check looks grants is granted
pub granted : (E : Entries) (o : Object) (q : Requester) (request : ℕ) (t : Tag) → Complete E
    → is_looked_at E o q t ≡ true → holds E t request ≡ true → grants E o q request ≡ true
unfolding grants
granted E o q request user_obj c l h = rw l (and_true (entry_contains E user_obj request) true h).0
granted E o q request (user id) c l h =
    let two = and_true (not (q.user == o.user)) (q.user == id) l in
    let both = and_true (entry_contains E (user id) request) (mask_contains E request) h in
    let there = contained_some (fin.get E (user id)) request both.0 in
    rw (not-true _ two.0, eqb-true q.user id two.1, there, both.0)
    (masks E request (c.masked (user id) refl there) both.1)
granted E o q request group_obj c l h =
    let two = and_true (is_stranger E o q) (is_member o.group q.groups) l in
    stranger_is E o q request two.0
    ∙ granted_by_group E o.group q.groups request o.group c two.1 (rw (eq-eqb o.group o.group refl, h) refl)
granted E o q request (group id) c l h =
    let two = and_true (is_stranger E o q) (is_member id q.groups) l in
    stranger_is E o q request two.0
    ∙ granted_by_group E o.group q.groups request id c two.1 (rw h (or_true_right _))
granted E o q request mask c l h = absurd (false≢true l)
granted E o q request other c l h =
    let two = and_true (is_stranger E o q) (not (any_matches E o.group q.groups)) l in
    stranger_is E o q request two.0
    ∙ granted_by_other E o.group q.groups request (not-true _ two.1)
    (and_true (entry_contains E other request) true h).0
