-- If a list grants a permission in some situation in which an ACL denies it, then so it is in a situation in which only
-- three principals match: those of the keys that decide the two rights, and one of the entry that denies.
use Rattle.std.proofs.Common.{◌≡◌, ◌≤◌, ◌<◌, ℕ, Bool, true, false, List, [], ◌∷◌, Option, None, Some, refl, sym, ap, ◌∙◌, arith, inl, inr}
use Rattle.std.proofs.lemmas.Bool.{cases_Bool, eq-eqb, eqb-true, false≢true, true≢false}
use Rattle.std.specs.Prelude.{◌⊎◌, ◌==◌, ◌&&◌, if◌then◌else◌, is_some, not, unwrap_or}
use Rattle.std.specs.List.{AllByRecursion}
use Rattle.std.specs.Ordering.{eq_by_cmp}
use Rattle.std.specs.FinMap as fin
use Rattle.acl_perm.proofs.Bools.{and_true}
use Rattle.acl_posix.specs.Check.{Object, Requester, any_contains, any_matches, contains, entry_contains, is_member, tag_matches}
use Rattle.acl_posix.specs.Entries.{Entries}
use Rattle.acl_posix.specs.Tag.{Tag, user_obj, user, group_obj, group, mask, other, qualifier, tag_cmp}
use Rattle.acl_posix.proofs.Exports.{any_contains-from_entry, contains_empty, none_contains}
use Rattle.acl_to_posix.specs.internal.LossBody.{has_masked, is_left_by, lacks, level}
use Rattle.acl_to_posix.specs.internal.ShapeBody.{tag_meets}
use Rattle.acl_to_posix.proofs.Passes.{eq_by_cmp-refl}
use Rattle.acl_to_posix.proofs.shapes.ShapeChecks.{choice, contains_nothing}
use Rattle.acl_eval.proofs.ValidChecks.{Complete, mask_contains}
use Rattle.acl_to_posix.proofs.losses.FewerMatches.{IsDenier, all_more, any_more, by_tests, entry_has, group_meets, keys_any, less_both, less_false, matches_within, no_entry, not_owner, some_entry}

-- MASK leaves what it contains
left_is : (o : Option ℕ) (want : ℕ) → contains 7 want ≡ true → is_left_by o want ≡ contains (unwrap_or o 7) want
left_is None want whole = sym whole
left_is (Some perm) want whole = refl

-- an entry that MASK limits lacks what the two do not contain together
masked_lacks : (E : Entries) (want : ℕ) (t : Tag) → contains 7 want ≡ true
    → (entry_contains E t want && mask_contains E want) ≡ false → not (has_masked E want t) ≡ true
masked_lacks E want t whole h = ap (λ (b : Bool). not b)
    (ap (λ (b : Bool). entry_contains E t want && b) (left_is (fin.get E mask) want whole) ∙ h)

-- a matching group with an entry matches an entry
in_matches : (E : Entries) (og : ℕ) (gs : List ℕ) (t : Tag) → tag_matches og gs t ≡ true → is_some (fin.get E t) ≡ true
    → any_matches E og gs ≡ true
in_matches E og gs t m there =
    sym (contains_empty E og gs) ∙ any_contains-from_entry E og 0 gs t m (contains_nothing (fin.get E t) ∙ there)

-- the entries of groups come after those of users
few_level : (E : Entries) (id : ℕ) → level E (group id) ≤ 1
few_level E id = by (is_some (fin.get E (group id)))
  where
    by : (b : Bool) → (if b then 1 else 0) ≤ 1
    by true = omega arith
    by false = omega arith

-- an entry that matches by a group decides at the level of groups
level_class : (E : Entries) (og : ℕ) (gs : List ℕ) (t : Tag) → tag_matches og gs t ≡ true → is_some (fin.get E t) ≡ true
    → level E t ≡ 1
level_class E og gs user_obj m there = absurd (false≢true m)
level_class E og gs (user id) m there = absurd (false≢true m)
level_class E og gs group_obj m there = refl
level_class E og gs (group id) m there = ap (λ (b : Bool). if b then 1 else 0) there
level_class E og gs mask m there = absurd (false≢true m)
level_class E og gs other m there = absurd (false≢true m)

-- where the entries of matching groups do not contain a request that MASK leaves, each of them lacks it
lacks_class : (E : Entries) (og want : ℕ) (gs : List ℕ) (t : Tag) → contains 7 want ≡ true → tag_matches og gs t ≡ true
    → (any_contains E og gs want && mask_contains E want) ≡ false → lacks E want t ≡ true
lacks_class E og want gs user_obj whole m h = absurd (false≢true m)
lacks_class E og want gs (user id) whole m h = absurd (false≢true m)
lacks_class E og want gs group_obj whole m h = masked_lacks E want group_obj whole
    (less_both _ _ (mask_contains E want) (any_contains-from_entry E og want gs group_obj m) h)
lacks_class E og want gs (group id) whole m h = masked_lacks E want (group id) whole
    (less_both _ _ (mask_contains E want) (any_contains-from_entry E og want gs (group id) m) h)
lacks_class E og want gs mask whole m h = absurd (false≢true m)
lacks_class E og want gs other whole m h = absurd (false≢true m)

-- the check does not grant by the tag before it denies by the other
abbrev IsPassedBy : Entries → ℕ → Tag → Tag → Type 0
IsPassedBy E want t c = (level E t < level E c) ⊎ ((level E t ≡ level E c) × (lacks E want t ≡ true))

-- so it is for each tag and USER_OBJ, if USER_OBJ lacks the permission
passed_owner : (E : Entries) (want : ℕ) (t : Tag) → entry_contains E user_obj want ≡ false
    → IsPassedBy E want t user_obj
passed_owner E want user_obj h = inr (refl, ap (λ (b : Bool). not b) h)
passed_owner E want (user id) h = inl (by (is_some (fin.get E (user id))))
  where
    by : (b : Bool) → (if b then 2 else 0) < 3
    by true = omega arith
    by false = omega arith
passed_owner E want group_obj h = inl (omega arith)
passed_owner E want (group id) h = let le = few_level E id in inl (omega (arith, le))
passed_owner E want mask h = inl (omega arith)
passed_owner E want other h = inl (omega arith)

-- for a user with an entry
passed_user : (E : Entries) (want : ℕ) (object : Object) (requester : Requester) (t : Tag) → contains 7 want ≡ true
    → (requester.user == object.user) ≡ false → is_some (fin.get E (user requester.user)) ≡ true
    → lacks E want (user requester.user) ≡ true → tag_meets object requester t ≡ true
    → IsPassedBy E want t (user requester.user)
passed_user E want object requester user_obj whole oe ue h m = absurd (true≢false (sym m ∙ oe))
passed_user E want object requester (user id) whole oe ue h m =
    let same : requester.user ≡ id = eqb-true requester.user id m in
    inr (ap (λ (n : ℕ). level E (user n)) (sym same), ap (λ (n : ℕ). lacks E want (user n)) (sym same) ∙ h)
passed_user E want object requester group_obj whole oe ue h m =
    let two : level E (user requester.user) ≡ 2 = ap (λ (b : Bool). if b then 2 else 0) ue in inl (omega (arith, two))
passed_user E want object requester (group id) whole oe ue h m =
    let two : level E (user requester.user) ≡ 2 = ap (λ (b : Bool). if b then 2 else 0) ue in
    let le = few_level E id in inl (omega (arith, two, le))
passed_user E want object requester mask whole oe ue h m = absurd (false≢true m)
passed_user E want object requester other whole oe ue h m =
    let two : level E (user requester.user) ≡ 2 = ap (λ (b : Bool). if b then 2 else 0) ue in inl (omega (arith, two))

-- a user without an entry has the least level
level_none : (E : Entries) (requester : Requester) (id : ℕ) → is_some (fin.get E (user requester.user)) ≡ false
    → (requester.user == id) ≡ true → level E (user id) ≡ 0
level_none E requester id ue m = ap (λ (b : Bool). if b then 2 else 0)
    (ap (λ (n : ℕ). is_some (fin.get E (user n))) (sym (eqb-true requester.user id m)) ∙ ue)

-- for a requester whom an entry of a group matches
passed_class : (E : Entries) (want : ℕ) (object : Object) (requester : Requester) (c t : Tag) → contains 7 want ≡ true
    → (requester.user == object.user) ≡ false → is_some (fin.get E (user requester.user)) ≡ false → level E c ≡ 1
    → (any_contains E object.group requester.groups want && mask_contains E want) ≡ false
    → tag_meets object requester t ≡ true → IsPassedBy E want t c
passed_class E want object requester c user_obj whole oe ue one h m = absurd (true≢false (sym m ∙ oe))
passed_class E want object requester c (user id) whole oe ue one h m =
    let zero = level_none E requester id ue m in inl (omega (arith, one, zero))
passed_class E want object requester c group_obj whole oe ue one h m =
    inr (sym one, lacks_class E object.group want requester.groups group_obj whole m h)
passed_class E want object requester c (group id) whole oe ue one h m =
    elim (cases_Bool (is_some (fin.get E (group id)))) [
      | inl there ↦ inr (
        level_class E object.group requester.groups (group id) m there ∙ sym one,
        lacks_class E object.group want requester.groups (group id) whole m h,
      )
      | inr none ↦ let zero : level E (group id) ≡ 0 = ap (λ (b : Bool). if b then 1 else 0) none in
          inl (omega (arith, one, zero))
    ]
passed_class E want object requester c mask whole oe ue one h m = absurd (false≢true m)
passed_class E want object requester c other whole oe ue one h m = inl (omega (arith, one))

-- for all others
passed_others : (E : Entries) (want : ℕ) (object : Object) (requester : Requester) (t : Tag) → Complete E
    → (requester.user == object.user) ≡ false → is_some (fin.get E (user requester.user)) ≡ false
    → any_matches E object.group requester.groups ≡ false → entry_contains E other want ≡ false
    → tag_meets object requester t ≡ true → IsPassedBy E want t other
passed_others E want object requester user_obj complete oe ue me h m = absurd (true≢false (sym m ∙ oe))
passed_others E want object requester (user id) complete oe ue me h m = inr (
  level_none E requester id ue m,
  ap (λ (b : Bool). not (b && is_left_by (fin.get E mask) want)) (none_contains (fin.get E (user id)) want
      (ap (λ (n : ℕ). is_some (fin.get E (user n))) (sym (eqb-true requester.user id m)) ∙ ue)),
)
passed_others E want object requester group_obj complete oe ue me h m =
    absurd (true≢false (sym (in_matches E object.group requester.groups group_obj m complete.group) ∙ me))
passed_others E want object requester (group id) complete oe ue me h m =
    elim (cases_Bool (is_some (fin.get E (group id)))) [
      | inl there ↦ absurd (true≢false (sym (in_matches E object.group requester.groups (group id) m there) ∙ me))
      | inr none ↦ inr (
        ap (λ (b : Bool). if b then 1 else 0) none,
        ap (λ (b : Bool). not (b && is_left_by (fin.get E mask) want)) (none_contains (fin.get E (group id)) want none),
      )
    ]
passed_others E want object requester mask complete oe ue me h m = absurd (false≢true m)
passed_others E want object requester other complete oe ue me h m = inr (refl, ap (λ (b : Bool). not b) h)

-- if the check denies a permission, there is an entry that denies it
pub denier : (E : Entries) (used : List ℕ) (object : Object) (requester : Requester) (want : ℕ) (has : Tag → Type 0)
    → Complete E → contains 7 want ≡ true
    → AllByRecursion (λ entry. is_member (qualifier entry.0) used ≡ true) (fin.entries E)
    → AllByRecursion (λ entry. has entry.0) (fin.entries E) → choice E object requester want ≡ false
    → IsDenier E used object requester want has
denier E used object requester want has complete whole named all h =
    by (requester.user == object.user) (fin.contains_key E (user requester.user))
    (any_matches E object.group requester.groups) refl refl refl
  where
    known : (t : Tag) → fin.contains_key E t ≡ true → is_member (qualifier t) used ≡ true
    known t there = entry_has E t (λ u. is_member (qualifier u) used ≡ true) named there

    user_lacks : (requester.user == object.user) ≡ false → fin.contains_key E (user requester.user) ≡ true
        → lacks E want (user requester.user) ≡ true
    user_lacks oe ue = masked_lacks E want (user requester.user) whole
        (sym (by_tests E object requester want false true _ oe ue refl) ∙ h)

    of_class : (requester.user == object.user) ≡ false → fin.contains_key E (user requester.user) ≡ false
        → any_matches E object.group requester.groups ≡ true → IsDenier E used object requester want has
    of_class oe ue me =
        let both = some_entry (tag_matches object.group requester.groups) (fin.entries E)
        (λ t. has t × (is_member (qualifier t) used ≡ true))
        (pair_up (fin.entries E) all named) me in
        record {
          tag = both.tag;
          meets = group_meets object requester both.tag both.passes;
          there = both.has.1;
          has = both.has.0;
          lacking = lacks_class E object.group want requester.groups both.tag whole both.passes class_denies;
          passed = λ t m. passed_class E want object requester both.tag t whole oe ue
              (level_class E object.group requester.groups both.tag both.passes
              (fin.contains_key-keys E both.tag ∙ (sym (keys_any (fin.entries E) both.tag)
              ∙ both.again (eq_by_cmp tag_cmp both.tag) (eq_by_cmp-refl both.tag)))) class_denies m;
          stays = λ object' requester' w m.
              by_tests E object' requester' want false false true
              (not_owner E used object requester object' requester' (known user_obj complete.owner) w oe)
              (no_entry E used object requester object' requester' known w ue)
              (both.again (tag_matches object'.group requester'.groups)
              (group_back object requester object' requester' both.tag both.passes m))
              ∙ less_both (any_contains E object'.group requester'.groups want)
              (any_contains E object.group requester.groups want) (mask_contains E want)
              (any_more (λ entry. tag_matches object'.group requester'.groups entry.0 && contains entry.1 want)
              (λ entry. tag_matches object.group requester.groups entry.0 && contains entry.1 want) (fin.entries E)
              (all_more (λ entry. is_member (qualifier entry.0) used ≡ true)
              (λ entry. (tag_matches object'.group requester'.groups entry.0 && contains entry.1 want) ≡ true
              → (tag_matches object.group requester.groups entry.0 && contains entry.1 want) ≡ true) (fin.entries E)
              (λ entry u g. let two = and_true (tag_matches object'.group requester'.groups entry.0)
              (contains entry.1 want) g in
              rw (matches_within used object requester object' requester' w entry.0 u two.0, two.1) refl) named))
              class_denies;
        }
      where
        class_denies : (any_contains E object.group requester.groups want && mask_contains E want) ≡ false
        class_denies = sym (by_tests E object requester want false false true oe ue me) ∙ h

        pair_up : (es : List (Tag × ℕ)) → AllByRecursion (λ entry. has entry.0) es
            → AllByRecursion (λ entry. is_member (qualifier entry.0) used ≡ true) es
            → AllByRecursion (λ entry. has entry.0 × (is_member (qualifier entry.0) used ≡ true)) es
        pair_up [] a b = tt
        pair_up (e ∷ es) a b = ((a.0, b.0), pair_up es a.1 b.1)

        group_back : (object : Object) (requester : Requester) (object' : Object) (requester' : Requester) (t : Tag)
            → tag_matches object.group requester.groups t ≡ true → tag_meets object' requester' t ≡ true
            → tag_matches object'.group requester'.groups t ≡ true
        group_back object requester object' requester' user_obj g m = absurd (false≢true g)
        group_back object requester object' requester' (user id) g m = absurd (false≢true g)
        group_back object requester object' requester' group_obj g m = m
        group_back object requester object' requester' (group id) g m = m
        group_back object requester object' requester' mask g m = absurd (false≢true g)
        group_back object requester object' requester' other g m = absurd (false≢true g)

    by : (o u m : Bool) → (requester.user == object.user) ≡ o → fin.contains_key E (user requester.user) ≡ u
        → any_matches E object.group requester.groups ≡ m → IsDenier E used object requester want has
    by true u m oe ue me = record {
      tag = user_obj;
      meets = oe;
      there = known user_obj complete.owner;
      has = entry_has E user_obj has all complete.owner;
      lacking = ap (λ (b : Bool). not b) (sym (by_tests E object requester want true _ _ oe refl refl) ∙ h);
      passed = λ t m. passed_owner E want t (sym (by_tests E object requester want true _ _ oe refl refl) ∙ h);
      stays = λ object' requester' w m. by_tests E object' requester' want true _ _ m refl refl
          ∙ (sym (by_tests E object requester want true _ _ oe refl refl) ∙ h);
    }
    by false true m oe ue me = record {
      tag = user requester.user;
      meets = eq-eqb requester.user requester.user refl;
      there = known (user requester.user) ue;
      has = entry_has E (user requester.user) has all ue;
      lacking = user_lacks oe ue;
      passed = λ t m. passed_user E want object requester t whole oe ue (user_lacks oe ue) m;
      stays = λ object' requester' w m.
          let same : requester'.user ≡ requester.user = eqb-true requester'.user requester.user m in
          by_tests E object' requester' want false true _
          (not_owner E used object requester object' requester' (known user_obj complete.owner) w oe)
          (ap (λ (n : ℕ). fin.contains_key E (user n)) same ∙ ue) refl
          ∙ (ap (λ (n : ℕ). entry_contains E (user n) want && mask_contains E want) same
          ∙ (sym (by_tests E object requester want false true _ oe ue refl) ∙ h));
    }
    by false false true oe ue me = of_class oe ue me
    by false false false oe ue me = record {
      tag = other;
      meets = refl;
      there = known other complete.others;
      has = entry_has E other has all complete.others;
      lacking = ap (λ (b : Bool). not b) (sym (by_tests E object requester want false false false oe ue me) ∙ h);
      passed = λ t m. passed_others E want object requester t complete oe ue me
          (sym (by_tests E object requester want false false false oe ue me) ∙ h) m;
      stays = λ object' requester' w m.
          by_tests E object' requester' want false false false
          (not_owner E used object requester object' requester' (known user_obj complete.owner) w oe)
          (no_entry E used object requester object' requester' known w ue)
          (less_false (any_matches E object'.group requester'.groups) (any_matches E object.group requester.groups)
          (any_more (λ entry. tag_matches object'.group requester'.groups entry.0)
          (λ entry. tag_matches object.group requester.groups entry.0) (fin.entries E)
          (all_more (λ entry. is_member (qualifier entry.0) used ≡ true)
          (λ entry. tag_matches object'.group requester'.groups entry.0 ≡ true
          → tag_matches object.group requester.groups entry.0 ≡ true) (fin.entries E)
          (λ entry u g. matches_within used object requester object' requester' w entry.0 u g) named)) me)
          ∙ (sym (by_tests E object requester want false false false oe ue me) ∙ h);
    }
