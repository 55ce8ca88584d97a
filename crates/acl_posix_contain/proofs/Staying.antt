-- A permission of an entry stays if and only if the tests of the bound hold.
use Rattle.std.proofs.Common.{◌≡◌, ℕ, ◌+◌, Bool, true, false, cond, List, [], ◌∷◌, Option, None, Some, refl, sym, ap, subst, ◌∙◌, arith, inl, inr}
use Rattle.std.proofs.lemmas.Bool.{cases_Bool, eq-eqb, eqb-true, false≢true, not-true, or_cases}
use Rattle.std.specs.Prelude.{◌==◌, ◌&&◌, ◌||◌, is_none, not}
use Rattle.std.specs.FinMap as fin
use Rattle.acl_perm.proofs.Bools.{and_true, or_true_right}
use Rattle.acl_posix.specs.Check.{Object, Requester, any_matches, grants, is_member}
use Rattle.acl_posix.specs.Entries.{Entries}
use Rattle.acl_posix.specs.Excess.{AreParties}
use Rattle.acl_posix.specs.Id.{greatest_id, IsId}
use Rattle.acl_posix.specs.Tag.{Tag, user_obj, user, group_obj, group, mask, other, IsTag}
use Rattle.acl_posix.specs.declared.id.Id.{Id}
use Rattle.acl_posix.specs.internal.GroupAnswers.{either_names, IsFreeId, stranger_grants}
use Rattle.acl_posix_contain.specs.declared.restricting.limits.Class.TheVariants.{NewUsers}
use Rattle.acl_posix_contain.specs.internal.Limits.{all_hold, class_get, entry_gets, gets, holds, is_stranger, is_of_class, is_looked_at, EntryStays, strangers_get}
use Rattle.acl_posix_contain.proofs.Looking.{Complete, granted, granted_by_group, looked, matched, outside, stranger_is}
use Rattle.acl_posix_contain.proofs.Strangers.{all_of, apart, both_true, each_of, group_needed, IsFreeGroup, one_group, others_enough, others_needed, owning_enough, owning_needed, owns, strangers_enough, strangers_needed, there_by}

-- a set and a bound with all that they must have, and the users and groups that are free
pub record AreSides (L B : Entries) (free_user free_group : Option Id) : Type 0 where
  pub list : Complete L
  pub bound : Complete B
  pub tags : (t : Tag) → fin.contains_key B t ≡ true → IsTag t
  pub users : IsFreeId (either_names L B) free_user
  pub groups : IsFreeGroup B free_group

-- ---- those whom neither USER_OBJ nor a USER entry is about

-- a user whom the bound names gets the request by the entry
by_entry : (B : Entries) (o : Object) (q : Requester) (request : ℕ) → Complete B → (q.user == o.user) ≡ false
    → fin.contains_key B (user q.user) ≡ true → grants B o q request ≡ true → holds B (user q.user) request ≡ true
by_entry B o q request c out there g = let l = looked B o q request c g in by l.tag l.looks l.grants
  where
    never : {X : Type 0} → is_stranger B o q ≡ true → X
    never h = absurd (false≢true (sym (outside B o q h).1 ∙ there))

    by : (t : Tag) → is_looked_at B o q t ≡ true → holds B t request ≡ true → holds B (user q.user) request ≡ true
    by user_obj l h = absurd (false≢true (sym out ∙ l))
    by (user id) l h =
        let same = eqb-true q.user id (and_true (not (q.user == o.user)) (q.user == id) l).1 in
        ap (λ (n : ℕ). holds B (user n) request) same ∙ h
    by group_obj l h = never (and_true (is_stranger B o q) (is_member o.group q.groups) l).0
    by (group id) l h = never (and_true (is_stranger B o q) (is_member id q.groups) l).0
    by mask l h = absurd (false≢true l)
    by other l h = never (and_true (is_stranger B o q) (not (any_matches B o.group q.groups)) l).0

-- the test is enough
class_enough : (L B : Entries) (found : Option Id) (request : ℕ) (test : Bool) (reach : ℕ → List ℕ → Bool)
    → Complete B → IsFreeId (either_names L B) found
    → class_get L B (is_none found) request test ≡ true
    → (test ≡ true → (og : ℕ) (gs : List ℕ) → IsId og → reach og gs ≡ true → stranger_grants B og gs request ≡ true)
    → (o : Object) (q : Requester) → AreParties o q → is_stranger L o q ≡ true → reach o.group q.groups ≡ true
    → grants B o q request ≡ true
class_enough L B found request test reach c free h pass o q parties outer reached =
    let two = and_true (all_hold L B NewUsers request) (is_none found || test) h in
    let (out, unnamed) = outside L o q outer in
    elim (cases_Bool (fin.contains_key B (user q.user))) [
      | inl there ↦ granted B o q request (user q.user) c (rw (out, eq-eqb q.user q.user refl) refl)
          (each_of L B NewUsers request (user q.user) two.0 there (rw unnamed refl))
      | inr none ↦ stranger_is B o q request (rw (out, none) refl)
          ∙ pass (by found free two.1 unnamed none) o.group q.groups parties.group reached
    ]
  where
    by : (found : Option Id) → IsFreeId (either_names L B) found → (is_none found || test) ≡ true
        → fin.contains_key L (user q.user) ≡ false → fin.contains_key B (user q.user) ≡ false → test ≡ true
    by None free h unnamed none = absurd (false≢true (sym (rw (unnamed, none) refl) ∙ free q.user parties.user))
    by (Some f) free h unnamed none = h

-- and needed, if some groups reach the entry
class_needed : (L B : Entries) (found : Option Id) (request : ℕ) (test : Bool) (reach : ℕ → List ℕ → Bool)
    (some_group : ℕ) (some : List ℕ) → IsId some_group → reach some_group some ≡ true
    → Complete B → ((t : Tag) → fin.contains_key B t ≡ true → IsTag t) → IsFreeId (either_names L B) found
    → ((o : Object) (q : Requester) → AreParties o q → is_stranger L o q ≡ true → reach o.group q.groups ≡ true
    → grants B o q request ≡ true)
    → (((og : ℕ) (gs : List ℕ) → IsId og → reach og gs ≡ true → stranger_grants B og gs request ≡ true) → test ≡ true)
    → class_get L B (is_none found) request test ≡ true
class_needed L B found request test reach some_group some is_some_group reached c tags free all pass =
    both_true _ _ (all_of L B NewUsers request each) (by found free)
  where
    each : (t : Tag) → fin.contains_key B t ≡ true → is_of_class L NewUsers t ≡ true → holds B t request ≡ true
    each (user id) there is =
        let (n, is_n, out, _) = apart id id in
        let o : Object = record { user = n; group = some_group } in
        let q : Requester = record { user = id; groups = some } in
        by_entry B o q request c out there (all o q
        (record { owner = is_n; group = is_some_group; user = tags (user id) there }) (rw (out, is) refl) reached)
    each t there is = absurd (false≢true is)

    by : (found : Option Id) → IsFreeId (either_names L B) found → (is_none found || test) ≡ true
    by None free = refl
    by (Some f) free = pass (λ og gs is reached.
        let (n, is_n, out, _) = apart f.value f.value in
        let o : Object = record { user = n; group = og } in
        let q : Requester = record { user = f.value; groups = gs } in
        let none = neither (fin.contains_key L (user f.value)) (fin.contains_key B (user f.value)) free in
        sym (stranger_is B o q request (rw (out, none.1) refl))
        ∙ all o q (record { owner = is_n; group = is; user = f.within }) (rw (out, none.0) refl) reached)
      where
        neither : (a b : Bool) → (a || b) ≡ false → (a ≡ false) × (b ≡ false)
        neither false b e = (refl, e)
        neither true b e = absurd (false≢true (sym e))

-- ---- each entry

-- the groups reach the entry of the class
abbrev reaches : Entries → Tag → ℕ → List ℕ → Bool
reaches L group_obj og gs = is_member og gs
reaches L (group id) og gs = is_member id gs
reaches L other og gs = not (any_matches L og gs)
reaches L t og gs = false

-- the test of the entry of a GROUP is enough
entry_enough : (L B : Entries) (found : Option Id) (request h og : ℕ) (gs : List ℕ) → Complete B → IsFreeGroup B found
    → entry_gets B (group h) request (strangers_get L B (is_none found) request) ≡ true → IsId og
    → is_member h gs ≡ true → stranger_grants B og gs request ≡ true
entry_enough L B found request h og gs c free test id has = by (fin.contains_key B (group h)) test
  where
    by : (b : Bool) → cond b (holds B (group h) request) (strangers_get L B (is_none found) request) ≡ true
        → stranger_grants B og gs request ≡ true
    by true held = granted_by_group B og gs request h c has (rw held (or_true_right _))
    by false held = strangers_enough L B found request og gs c free held id

-- and needed
entry_needed : (L B : Entries) (every : Bool) (request h : ℕ) → Complete B
    → ((t : Tag) → fin.contains_key B t ≡ true → IsTag t) → IsId h
    → ((og : ℕ) (gs : List ℕ) → IsId og → is_member h gs ≡ true → stranger_grants B og gs request ≡ true)
    → entry_gets B (group h) request (strangers_get L B every request) ≡ true
entry_needed L B every request h c tags is all = by (fin.contains_key B (group h)) refl
  where
    own : fin.contains_key B (group h) ≡ false → holds B group_obj request ≡ true
    own e = elim (one_group B h h request c (all h (h ∷ []) is (rw (eq-eqb h h refl) refl))) [
      | inl held ↦ elim (or_cases ((h == h) && holds B group_obj request) (holds B (group h) request) held) [
        | inl owning ↦ (and_true (h == h) (holds B group_obj request) owning).1
        | inr named ↦ absurd (false≢true (sym e ∙ there_by B (group h) request named))
      ]
      | inr none ↦ absurd (false≢true (sym none.0 ∙ owns B h c))
    ]

    by : (b : Bool) → fin.contains_key B (group h) ≡ b
        → cond b (holds B (group h) request) (strangers_get L B every request) ≡ true
    by true e = group_needed B request h c e all
    by false e = strangers_needed L B every request h c tags e (rw (own e) refl) all

-- the test of a USER is enough
user_enough : (L B : Entries) (found : Option Id) (request id : ℕ) → Complete B → IsFreeGroup B found
    → entry_gets B (user id) request (strangers_get L B (is_none found) request) ≡ true
    → EntryStays L B request (user id)
user_enough L B found request id c free test o q parties looks = by (fin.contains_key B (user id)) refl test
  where
    two : ((q.user == o.user) ≡ false) × (q.user ≡ id)
    two = let t = and_true (not (q.user == o.user)) (q.user == id) looks in (not-true _ t.0, eqb-true q.user id t.1)

    by : (b : Bool) → fin.contains_key B (user id) ≡ b
        → cond b (holds B (user id) request) (strangers_get L B (is_none found) request) ≡ true
        → grants B o q request ≡ true
    by true e held = granted B o q request (user id) c looks held
    by false e held =
        stranger_is B o q request (rw (two.0, ap (λ (n : ℕ). fin.contains_key B (user n)) two.1 ∙ e) refl)
        ∙ strangers_enough L B found request o.group q.groups c free held parties.group

-- and needed
user_needed : (L B : Entries) (found : Option Id) (request id : ℕ) → Complete B
    → ((t : Tag) → fin.contains_key B t ≡ true → IsTag t) → IsFreeGroup B found → IsId id
    → EntryStays L B request (user id)
    → entry_gets B (user id) request (strangers_get L B (is_none found) request) ≡ true
user_needed L B found request id c tags free is stays = by (fin.contains_key B (user id)) refl
  where
    all : (og : ℕ) (gs : List ℕ) → IsId og
        → (o : Object) × ((id == o.user) ≡ false) × (o.group ≡ og)
        × (grants B o (record { user = id; groups = gs }) request ≡ true)
    all og gs is_og =
        let (n, is_n, out, _) = apart id id in
        let o : Object = record { user = n; group = og } in (
          o,
          out,
          refl,
          stays o (record { user = id; groups = gs }) (record { owner = is_n; group = is_og; user = is })
              (rw (out, eq-eqb id id refl) refl),
        )

    strange : fin.contains_key B (user id) ≡ false → (og : ℕ) (gs : List ℕ) → IsId og
        → stranger_grants B og gs request ≡ true
    strange e og gs is_og =
        let a = all og gs is_og in
        subst (λ (g : ℕ). stranger_grants B g gs request ≡ true) a.2
        (sym (stranger_is B a.0 (record { user = id; groups = gs }) request (rw (a.1, e) refl)) ∙ a.3)

    unlisted : (b : Bool) → fin.contains_key B (group (greatest_id + 1)) ≡ b → b ≡ false
    unlisted false e = refl
    unlisted true e =
        let wrong : IsId (greatest_id + 1) = tags (group (greatest_id + 1)) e in absurd (omega (arith, wrong))

    by : (b : Bool) → fin.contains_key B (user id) ≡ b
        → cond b (holds B (user id) request) (strangers_get L B (is_none found) request) ≡ true
    by true e = let a = all 0 [] (omega arith) in
        by_entry B a.0 (record { user = id; groups = [] }) request c a.1 e a.3
    by false e = strangers_needed L B (is_none found) request (greatest_id + 1) c tags (unlisted _ refl)
        (owning_needed L B found request c tags free (λ og is_og. strange e og (og ∷ []) is_og))
        (λ og gs is_og _. strange e og gs is_og)

-- if the tests hold, the permission stays
pub stays_if : (L B : Entries) (u g : Option Id) (request : ℕ) (t : Tag) → AreSides L B u g
    → gets L B (is_none u) (is_none g) request t ≡ true → EntryStays L B request t
stays_if L B u g request user_obj s h = λ o q parties looks. granted B o q request user_obj s.bound looks h
stays_if L B u g request (user id) s h = user_enough L B g request id s.bound s.groups h
stays_if L B u g request group_obj s h = λ o q parties looks.
    let two = and_true (is_stranger L o q) (is_member o.group q.groups) looks in
    class_enough L B u request _ (reaches L group_obj) s.bound s.users h
    (λ test og gs is reached. owning_enough L B g request og gs s.bound s.groups test is reached) o q parties two.0 two.1
stays_if L B u g request (group id) s h = λ o q parties looks.
    let two = and_true (is_stranger L o q) (is_member id q.groups) looks in
    class_enough L B u request _ (reaches L (group id)) s.bound s.users h
    (λ test og gs is reached. entry_enough L B g request id og gs s.bound s.groups test is reached) o q parties two.0
    two.1
stays_if L B u g request mask s h = λ o q parties looks. absurd (false≢true looks)
stays_if L B u g request other s h = λ o q parties looks.
    let two = and_true (is_stranger L o q) (not (any_matches L o.group q.groups)) looks in
    class_enough L B u request _ (reaches L other) s.bound s.users h
    (λ test og gs is reached. others_enough L B request og gs s.list s.bound test (not-true _ reached)) o q parties
    two.0 two.1

-- what stays passes the tests
pub stays_only : (L B : Entries) (u g : Option Id) (request : ℕ) (t : Tag) → AreSides L B u g → IsTag t
    → EntryStays L B request t → gets L B (is_none u) (is_none g) request t ≡ true
unfolding grants
stays_only L B u g request user_obj s is h =
    let held = h (record { user = 0; group = 0 }) (record { user = 0; groups = [] })
    (record { owner = omega arith; group = omega arith; user = omega arith }) refl in
    rw held refl
stays_only L B u g request (user id) s is h = user_needed L B g request id s.bound s.tags s.groups is h
stays_only L B u g request group_obj s is h =
    class_needed L B u request _ (reaches L group_obj) 0 (0 ∷ []) (omega arith) refl s.bound s.tags s.users
    (λ o q parties outer reached. h o q parties (rw (outer, reached) refl))
    (λ all. owning_needed L B g request s.bound s.tags s.groups
    (λ og is_og. all og (og ∷ []) is_og (rw (eq-eqb og og refl) refl)))
stays_only L B u g request (group id) s is h =
    class_needed L B u request _ (reaches L (group id)) 0 (id ∷ []) (omega arith) (rw (eq-eqb id id refl) refl)
    s.bound s.tags s.users (λ o q parties outer reached. h o q parties (rw (outer, reached) refl))
    (λ all. entry_needed L B (is_none g) request id s.bound s.tags is all)
stays_only L B u g request mask s is h = refl
stays_only L B u g request other s is h =
    class_needed L B u request _ (reaches L other) 0 [] (omega arith) (rw (matched L 0 []) refl) s.bound s.tags s.users
    (λ o q parties outer reached. h o q parties (rw (outer, reached) refl))
    (λ all. others_needed L B request s.bound (λ og gs is_og none. all og gs is_og (rw none refl)))
