-- What one set of entries grants more than another, by the classes of requesters.
use Rattle.acl_posix.proofs.Common.{[], ap, arith, Bool, cond, Entries, entry_contains, eq-eqb, eq_by_cmp, eq_by_cmp_equiv, eqb-true, false, group, group_contains, group_obj, inl, inr, is_contained, is_some, length, List, list_any, list_any_at, mask, None, Option, or_true, other, refl, Some, sym, Tag, tag_at, tag_cmp, tags_total, true, unwrap_or, user, user_obj, ℕ, ◌&&◌, ◌<◌, ◌==◌, ◌||◌, ◌∙◌, ◌∷◌, ◌≡◌, ◌⊎◌}
use Rattle.std.specs.FinMap as fin
use Rattle.acl_perm.specs.declared.perm.Perm.{Perm}
use Rattle.acl_posix.specs.declared.id.Id.{Id}
use Rattle.acl_posix.specs.declared.difference.FewGroups.{FewGroups}
use Rattle.acl_posix.specs.declared.difference.PosixDifference.{PosixDifference}
use Rattle.acl_posix.specs.Check.{grants, Object, Requester}
use Rattle.acl_posix.specs.Excess.{GrantsNothingMoreOf, group_numbers, IsPosixExcess}
use Rattle.acl_posix.specs.Id.{IsId}
use Rattle.acl_posix.specs.internal.GroupAnswers.{answer_of, either_lists, either_names, IsExcessOf, IsGroupExcess, IsUserExcess, NoExcessAt, NoUserExcess, stranger_grants, user_answer, user_id}
use Rattle.acl_posix.proofs.group_answers.Answering.{stranger_parts}
use Rattle.acl_posix.proofs.tag.Tags.{length-tags_of}

-- ---- users whom a set names

-- a tag that has the id of a user is the USER tag of this user
is_user : (t : Tag) (u : ℕ) → user_id t ≡ Some u → t ≡ user u
is_user (user id) u h = ap (λ (o : Option ℕ). user (unwrap_or o u)) h
is_user tag u h = absurd cc

-- a user at a place has an entry
pub named_at : (E : Entries) (j u : ℕ) → j < length (fin.entries E) → user_id (tag_at (fin.entries E) j) ≡ Some u
    → fin.contains_key E (user u) ≡ true
named_at E j u lt is = fin.contains_key-keys E (user u)
    ∙ list_any_at (eq_by_cmp tag_cmp (user u)) (fin.keys E) j other (omega (arith, lt, length-tags_of (fin.entries E)))
    (ap (eq_by_cmp tag_cmp (user u)) (is_user (tag_at (fin.entries E) j) u is)
    ∙ (eq_by_cmp_equiv tags_total).refl (user u))

-- an answer given if a test passes is absent only if it fails
unanswered : {X : Type 0} (f : Bool) (x : X) → cond f (Some x) None ≡ None → f ≡ false
unanswered true x h = absurd cc
unanswered false x h = refl

-- a user whom a set does not answer by an entry has no entry
pub unnamed : (E : Entries) (u r : ℕ) → user_answer E u r ≡ None → fin.contains_key E (user u) ≡ false
unfolding user_answer
unnamed E u r h = unanswered (fin.contains_key E (user u)) _ h

-- of two tests of which one passes, not both fail
neither : (f h : Bool) → (f || h) ≡ true → f ≡ false → h ≡ false → ⊥
neither f h any p q = grind (arith, any, p, q)

-- a user whom one of two sets names is answered by an entry of one of them
pub some_answer : (A B : Entries) (u r : ℕ) → either_names A B u ≡ true → user_answer A u r ≡ None
    → user_answer B u r ≡ None → ⊥
some_answer A B u r named a b =
    neither (fin.contains_key A (user u)) (fin.contains_key B (user u)) named (unnamed A u r a) (unnamed B u r b)

-- nothing is granted to named users, if nothing is to those of either set
pub to_named : (A B : Entries) (og r : ℕ) → ((u : ℕ) → fin.contains_key A (user u) ≡ true → NoExcessAt A B og r u)
    → ((u : ℕ) → fin.contains_key B (user u) ≡ true → NoExcessAt A B og r u) → (u : ℕ) → either_names A B u ≡ true
    → NoExcessAt A B og r u
to_named A B og r in_a in_b u named =
    elim (or_true (fin.contains_key A (user u)) (fin.contains_key B (user u)) named) [
      | inl a ↦ in_a u a
      | inr b ↦ in_b u b
    ]

-- if neither of two tests passes, the first fails
neither_left : (f h : Bool) → (f || h) ≡ false → f ≡ false
neither_left false h is = refl
neither_left true h is = absurd cc

-- if neither of two tests passes, the second fails
neither_right : (f h : Bool) → (f || h) ≡ false → h ≡ false
neither_right false h is = is
neither_right true h is = absurd cc

-- a user whom no entry names is answered by the groups
answer_unnamed : (E : Entries) (og u r : ℕ) (gs : List ℕ) → fin.contains_key E (user u) ≡ false
    → answer_of E og u gs r ≡ stranger_grants E og gs r
unfolding user_answer
answer_unnamed E og u r gs not = rw not refl

-- what the groups show, a user whom neither set names shows
pub from_groups : (A B : Entries) (og u r : ℕ) (gs : List ℕ) → either_names A B u ≡ false → IsGroupExcess A B og r gs
    → IsUserExcess A B og r u gs
from_groups A B og u r gs not h = record {
  granted = answer_unnamed A og u r gs (neither_left _ (fin.contains_key B (user u)) not) ∙ h.granted;
  denied = answer_unnamed B og u r gs (neither_right (fin.contains_key A (user u)) _ not) ∙ h.denied;
}

-- a test passes or fails
either_way : (b : Bool) → (b ≡ true) ⊎ (b ≡ false)
either_way true = inl refl
either_way false = inr refl

-- nothing is granted to anybody, if nothing is to named users and to others
pub to_anybody : (A B : Entries) (og r : ℕ) → ((u : ℕ) → either_names A B u ≡ true → NoExcessAt A B og r u)
    → ((gs : List ℕ) → IsGroupExcess A B og r gs → ⊥) → (u : ℕ) → NoExcessAt A B og r u
to_anybody A B og r named others u gs h = elim (either_way (either_names A B u)) [
  | inl is ↦ named u is gs h
  | inr not ↦ others gs (record {
    granted = sym (answer_unnamed A og u r gs (neither_left _ (fin.contains_key B (user u)) not)) ∙ h.granted;
    denied = sym (answer_unnamed B og u r gs (neither_right (fin.contains_key A (user u)) _ not)) ∙ h.denied;
  })
]

-- ---- the access check by these answers

-- a choice is the answer given if the test passes, or the other value
answered_or : (f x s : Bool) → cond f x s ≡ unwrap_or (cond f (Some x) None) s
answered_or true x s = refl
answered_or false x s = refl

-- the access check: the permissions of USER_OBJ for the owner, and the answer to others for others
grants_is : (E : Entries) (o : Object) (q : Requester) (r : ℕ) → grants E o q r
    ≡ cond (q.user == o.user) (entry_contains E user_obj r) (answer_of E o.group q.user q.groups r)
unfolding grants user_answer stranger_grants
grants_is E o q r = ap (λ (x : Bool). cond (q.user == o.user) (entry_contains E user_obj r) x)
    (answered_or (fin.contains_key E (user q.user)) (entry_contains E (user q.user) r && entry_contains E mask r)
    (stranger_grants E o.group q.groups r))

-- a difference for a user who is not the owner
pub difference_is : (A B : Entries) (d : PosixDifference) → (d.user.value == d.owner.value) ≡ false
    → IsUserExcess A B d.group.value d.request.bits d.user.value (group_numbers d.groups) → IsPosixExcess A B d
difference_is A B d not h = record {
  granted = grants_is A _ _ d.request.bits ∙ rw not h.granted;
  denied = grants_is B _ _ d.request.bits ∙ rw not h.denied;
}

-- a difference for the owner
pub owner_is : (A B : Entries) (d : PosixDifference) → d.user ≡ d.owner
    → entry_contains A user_obj d.request.bits ≡ true → entry_contains B user_obj d.request.bits ≡ false
    → IsPosixExcess A B d
owner_is A B d same a b =
    let is = eq-eqb d.user.value d.owner.value (ap (λ id. id.value) same) in
    record { granted = grants_is A _ _ d.request.bits ∙ rw is a; denied = grants_is B _ _ d.request.bits ∙ rw is b }

-- the difference that a search makes
pub made_excess : (A B : Entries) (og : Id) (r : Perm) (u : Id) (few : FewGroups) (d : PosixDifference)
    → (d.user.value == d.owner.value) ≡ false → d.user ≡ u → d.groups ≡ few → d.group ≡ og → d.request ≡ r
    → IsUserExcess A B og.value r.bits u.value (group_numbers few) → IsExcessOf A B r.bits d
made_excess A B og r u few d not is_user is_groups is_group is_request h = record {
  excess = difference_is A B d not (rw (is_user, is_groups, is_group, is_request) h);
  asks = ap (λ (p : Perm). p.bits) is_request;
}

-- the difference in what the owner is granted
pub made_owner : (A B : Entries) (r : Perm) (d : PosixDifference) → d.user ≡ d.owner → d.request ≡ r
    → entry_contains A user_obj r.bits ≡ true → entry_contains B user_obj r.bits ≡ false → IsExcessOf A B r.bits d
made_owner A B r d same is_request a b = record {
  excess = owner_is A B d same (rw is_request a) (rw is_request b);
  asks = ap (λ (p : Perm). p.bits) is_request;
}

-- what the first grants and the second does not deny, the second grants
granted_too : (a b : Bool) → (a ≡ true → b ≡ false → ⊥) → a ≡ true → b ≡ true
granted_too a true never is = refl
granted_too a false never is = absurd (never is refl)

-- no request is granted beyond what the other grants, if none is to the owner and to others
pub grants_no_more : (A B : Entries) (r : ℕ)
    → (entry_contains A user_obj r ≡ true → entry_contains B user_obj r ≡ false → ⊥)
    → ((og : ℕ) → IsId og → NoUserExcess A B og r) → GrantsNothingMoreOf A B r
grants_no_more A B r owner others o q parties granted =
    let a = sym (grants_is A o q r) ∙ granted in
    grants_is B o q r ∙ elim (either_way (q.user == o.user)) [
      | inl is ↦ rw is (granted_too (entry_contains A user_obj r) _ owner (rw is at a))
      | inr not ↦ rw not (granted_too (answer_of A o.group q.user q.groups r) _ (λ x y.
          others o.group parties.group q.user parties.user q.groups (record { granted = x; denied = y })) (rw not at a))
    ]

-- ---- another owning group

-- a group before others, with one owning group in place of another
abbrev put_one : Bool → Bool → ℕ → ℕ → List ℕ → List ℕ
put_one true true og g gs = og ∷ gs
put_one true false og g gs = og ∷ (g ∷ gs)
put_one false true og g gs = gs
put_one false false og g gs = g ∷ gs

-- the groups of a requester, with one owning group in place of another
abbrev moved : ℕ → ℕ → List ℕ → List ℕ
moved og was [] = []
moved og was (g ∷ gs) = put_one (g == was) (g == og) og g (moved og was gs)

-- one group answers as the groups that take its place
one_moved : (f : ℕ → Bool) (e : ℕ → Bool) (go t s : Bool) (og g : ℕ) (gs : List ℕ) (rest : Bool) → list_any f gs ≡ rest
    → f og ≡ (go || false) → (s ≡ true → e g ≡ false) → (s ≡ false → f g ≡ e g)
    → list_any f (put_one t s og g gs) ≡ (((t && go) || e g) || rest)
one_moved f e true true true og g gs rest is own same apart = rw own refl
one_moved f e false true true og g gs rest is own same apart = rw (own, same refl, is) refl
one_moved f e true true false og g gs rest is own same apart = rw own refl
one_moved f e false true false og g gs rest is own same apart = rw (own, apart refl, is) refl
one_moved f e go false true og g gs rest is own same apart = rw (same refl, is) refl
one_moved f e go false false og g gs rest is own same apart = rw (apart refl, is) refl

-- what is not there contains nothing
pub none_contains : (o : Option ℕ) (r : ℕ) → is_some o ≡ false → is_contained o r ≡ false
none_contains None r h = refl
none_contains (Some p) r h = absurd cc

-- an entry that is not there contains nothing
absent_contains : (E : Entries) (t : Tag) (r : ℕ) → fin.contains_key E t ≡ false → entry_contains E t r ≡ false
absent_contains E t r not = none_contains (fin.get E t) r not

-- the groups answer alike with another owning group that no entry names
any_moved : (E : Entries) (og was r : ℕ) (gs : List ℕ) → fin.contains_key E (group og) ≡ false
    → list_any (group_contains E og r) (moved og was gs) ≡ list_any (group_contains E was r) gs
any_moved E og was r [] not = refl
any_moved E og was r (g ∷ gs) not =
    let e = λ (x : ℕ). entry_contains E (group x) r in
    let none = absent_contains E (group og) r not in
    one_moved (group_contains E og r) e (entry_contains E group_obj r) (g == was) (g == og) og g (moved og was gs) _
    (any_moved E og was r gs not) (rw (eq-eqb og og refl, none) refl)
    (λ same. ap e (eqb-true g og same) ∙ none) (λ other. rw other refl)

-- with it, the answer to one who is not the owner and whom no USER entry names is the same
stranger_moved : (E : Entries) (og was r : ℕ) (gs : List ℕ) → fin.contains_key E (group og) ≡ false
    → stranger_grants E og (moved og was gs) r ≡ stranger_grants E was gs r
stranger_moved E og was r gs not =
    stranger_parts E og r (moved og was gs)
    ∙ rw (any_moved E og was 0 gs not, any_moved E og was r gs not) (sym (stranger_parts E was r gs))

-- with it, the answer to each who is not the owner is the same
answer_moved : (E : Entries) (og was u r : ℕ) (gs : List ℕ) → fin.contains_key E (group og) ≡ false
    → answer_of E og u (moved og was gs) r ≡ answer_of E was u gs r
answer_moved E og was u r gs not =
    ap (λ (s : Bool). unwrap_or (user_answer E u r) s) (stranger_moved E og was r gs not)

-- what no user is granted with an owning group that no entry names, none is with any owning group
pub with_any_group : (A B : Entries) (og r : ℕ) → either_lists A B og ≡ false → NoUserExcess A B og r → (was : ℕ)
    → NoUserExcess A B was r
with_any_group A B og r not none was u is gs h = none u is (moved og was gs) (record {
  granted = answer_moved A og was u r gs (neither_left _ (fin.contains_key B (group og)) not) ∙ h.granted;
  denied = answer_moved B og was u r gs (neither_right (fin.contains_key A (group og)) _ not) ∙ h.denied;
})
