-- What a bound grants to everybody whom it does not name.
use Rattle.std.proofs.Common.{◌≡◌, ℕ, Bool, true, false, List, [], ◌∷◌, Option, None, Some, refl, sym, ap, ◌∙◌, arith, inl, inr}
use Rattle.std.proofs.lemmas.Bool.{cases_Bool, eq-eqb, eqb-true, false≢true, not-true, or_cases}
use Rattle.std.specs.Prelude.{◌⊎◌, ◌==◌, ◌&&◌, ◌||◌, is_none, not}
use Rattle.std.specs.List.{list_all, list_any}
use Rattle.std.specs.Ordering.{eq_by_cmp}
use Rattle.std.specs.FinMap as fin
use Rattle.acl_perm.proofs.Bools.{and_true, or_true_right}
use Rattle.acl_posix.specs.Check.{any_matches, entry_contains, is_member}
use Rattle.acl_posix.specs.Entries.{Entries}
use Rattle.acl_posix.specs.Id.{IsId}
use Rattle.acl_posix.specs.Tag.{Tag, group_obj, group, other, IsTag, tag_cmp}
use Rattle.acl_posix.specs.declared.id.Id.{Id}
use Rattle.acl_posix.specs.internal.GroupAnswers.{IsFreeId, stranger_grants}
use Rattle.acl_posix.specs.internal.GroupSearch.{group_contains}
use Rattle.acl_posix.proofs.Exports.{contained_some, eq_by_cmp-refl, same_tag}
use Rattle.acl_posix_contain.specs.declared.restricting.limits.Class.{Class}
use Rattle.acl_posix_contain.specs.declared.restricting.limits.Class.TheVariants.{Groups, NewGroups}
use Rattle.acl_posix_contain.specs.internal.Limits.{all_hold, holds, is_of_class, others_get, owning_get, passes, strangers_get}
use Rattle.acl_posix_contain.proofs.Looking.{any_member, Complete, contains_nothing, granted_by_group, granted_by_other, grantor, group_holds, matched, some_member}

-- two tests that hold hold together
pub both_true : (a b : Bool) → a ≡ true → b ≡ true → (a && b) ≡ true
both_true true b p q = q
both_true false b p q = absurd (false≢true p)

-- ---- each entry of a class

-- a tag of a list passes what all tags of the list pass
all_find : (test : Tag → Bool) (ts : List Tag) (t : Tag) → list_all test ts ≡ true
    → list_any (eq_by_cmp tag_cmp t) ts ≡ true → test t ≡ true
all_find test [] t all h = absurd (false≢true h)
all_find test (x ∷ ts) t all h =
    let two = and_true (test x) (list_all test ts) all in
    elim (or_cases (eq_by_cmp tag_cmp t x) (list_any (eq_by_cmp tag_cmp t) ts) h) [
      | inl same ↦ ap test (same_tag t x same) ∙ two.0
      | inr rest ↦ all_find test ts t two.1 rest
    ]

-- if each tag of a list passes, all do
all_made : (test : Tag → Bool) (ts : List Tag)
    → ((t : Tag) → list_any (eq_by_cmp tag_cmp t) ts ≡ true → test t ≡ true) → list_all test ts ≡ true
all_made test [] each = refl
all_made test (x ∷ ts) each =
    let here = each x (rw (eq_by_cmp-refl x) refl) in
    let rest = all_made test ts (λ t h. each t (rw h (or_true_right (eq_by_cmp tag_cmp t x)))) in
    rw (here, rest) refl

-- an entry of the class grants what all entries of the class grant
pub each_of : (L B : Entries) (class : Class) (request : ℕ) (t : Tag) → all_hold L B class request ≡ true
    → fin.contains_key B t ≡ true → is_of_class L class t ≡ true → holds B t request ≡ true
each_of L B class request t all there is =
    let h = all_find (λ u. not (is_of_class L class u) || holds B u request) (fin.keys B) t all
    (sym (fin.contains_key-keys B t) ∙ there) in
    sym (ap (λ (b : Bool). not b || holds B t request) is) ∙ h

-- all do if each does
pub all_of : (L B : Entries) (class : Class) (request : ℕ)
    → ((t : Tag) → fin.contains_key B t ≡ true → is_of_class L class t ≡ true → holds B t request ≡ true)
    → all_hold L B class request ≡ true
all_of L B class request each =
    all_made (λ u. not (is_of_class L class u) || holds B u request) (fin.keys B)
    (λ t h. by t (is_of_class L class t) refl (fin.contains_key-keys B t ∙ h))
  where
    by : (t : Tag) (b : Bool) → is_of_class L class t ≡ b → fin.contains_key B t ≡ true
        → (not b || holds B t request) ≡ true
    by t true e there = each t there e
    by t false e there = refl

-- ---- requesters in one or two groups

-- an entry that holds is there
pub there_by : (B : Entries) (t : Tag) (request : ℕ) → holds B t request ≡ true → fin.contains_key B t ≡ true
there_by B t request h =
    contained_some (fin.get B t) request (and_true (entry_contains B t request) (passes B t request) h).0

-- a group that is listed matches
lists : (B : Entries) (og id : ℕ) → fin.contains_key B (group id) ≡ true → group_contains B og 0 id ≡ true
lists B og id there = rw (contains_nothing (fin.get B (group id)) ∙ there) (or_true_right _)

-- so does the owning group
pub owns : (B : Entries) (og : ℕ) → Complete B → group_contains B og 0 og ≡ true
owns B og c = rw (eq-eqb og og refl, contains_nothing (fin.get B group_obj) ∙ c.group) refl

-- the entries that match by a group, one of two which are not the owning group, of which the first is not listed
pub second_alone : (B : Entries) (og h id request : ℕ) → Complete B → fin.contains_key B (group h) ≡ false
    → (h == og) ≡ false → (id == og) ≡ false → fin.contains_key B (group id) ≡ true
    → stranger_grants B og (h ∷ id ∷ []) request ≡ true → holds B (group id) request ≡ true
second_alone B og h id request c unlisted ho io there granted =
    elim (grantor B og (h ∷ id ∷ []) request c granted) [
      | inl found ↦ by found.0 found.1 found.2
      | inr none ↦ absurd (false≢true (sym none.0 ∙ matched B og (h ∷ id ∷ [])
          ∙ rw (lists B og id there) (or_true_right _)))
    ]
  where
    by : (n : ℕ) → is_member n (h ∷ id ∷ []) ≡ true → group_holds B og request n ≡ true
        → holds B (group id) request ≡ true
    by n has held =
        elim (or_cases (h == n) ((id == n) || false) has) [
          | inl first ↦
              let same = eqb-true h n first in
              elim (or_cases ((n == og) && holds B group_obj request) (holds B (group n) request) held) [
                | inl owning ↦ absurd (false≢true (sym ho ∙ ap (λ (m : ℕ). m == og) same
                    ∙ (and_true (n == og) (holds B group_obj request) owning).0))
                | inr named ↦ absurd (false≢true (sym unlisted
                    ∙ ap (λ (m : ℕ). fin.contains_key B (group m)) same ∙ there_by B (group n) request named))
              ]
          | inr rest ↦
              let same = eqb-true id n (sec (id == n) rest) in
              elim (or_cases ((n == og) && holds B group_obj request) (holds B (group n) request) held) [
                | inl owning ↦ absurd (false≢true (sym io ∙ ap (λ (m : ℕ). m == og) same
                    ∙ (and_true (n == og) (holds B group_obj request) owning).0))
                | inr named ↦ ap (λ (m : ℕ). holds B (group m) request) same ∙ named
              ]
        ]
      where
        sec : (b : Bool) → (b || false) ≡ true → b ≡ true
        sec true e = refl
        sec false e = e

-- the entries that match by one group
pub one_group : (B : Entries) (og id request : ℕ) → Complete B → stranger_grants B og (id ∷ []) request ≡ true
    → (group_holds B og request id ≡ true)
    ⊎ ((group_contains B og 0 id ≡ false) × (holds B other request ≡ true))
one_group B og id request c granted =
    elim (grantor B og (id ∷ []) request c granted) [
      | inl found ↦ inl (ap (group_holds B og request) (eqb-true id found.0 (sec (id == found.0) found.1)) ∙ found.2)
      | inr none ↦ inr (sec2 (group_contains B og 0 id) (sym (matched B og (id ∷ [])) ∙ none.0), rw none.1 refl)
    ]
  where
    sec : (b : Bool) → (b || false) ≡ true → b ≡ true
    sec true e = refl
    sec false e = e

    sec2 : (b : Bool) → (b || false) ≡ false → b ≡ false
    sec2 true e = e
    sec2 false e = refl

-- an id that is neither of two numbers
pub apart : (a b : ℕ) → (og : ℕ) × IsId og × ((a == og) ≡ false) × ((b == og) ≡ false)
apart a b = by (a == 0) (b == 0) (a == 1) (b == 1) refl refl refl refl
  where
    by : (a0 b0 a1 b1 : Bool) → (a == 0) ≡ a0 → (b == 0) ≡ b0 → (a == 1) ≡ a1 → (b == 1) ≡ b1
        → (og : ℕ) × IsId og × ((a == og) ≡ false) × ((b == og) ≡ false)
    by false false a1 b1 p q r s = (0, omega arith, p, q)
    by true b0 false false p q r s = (1, omega arith, r, s)
    by false true false false p q r s = (1, omega arith, r, s)
    by true b0 true b1 p q r s =
        let zero : a ≡ 0 = eqb-true a 0 p in let one : a ≡ 1 = eqb-true a 1 r in absurd (omega (arith, zero, one))
    by true b0 false true p q r s = (
      2,
      omega arith,
      ap (λ (n : ℕ). n == 2) (eqb-true a 0 p),
      ap (λ (n : ℕ). n == 2) (eqb-true b 1 s),
    )
    by false true true false p q r s = (
      2,
      omega arith,
      ap (λ (n : ℕ). n == 2) (eqb-true a 1 r),
      ap (λ (n : ℕ). n == 2) (eqb-true b 0 q),
    )
    by false true a1 true p q r s =
        let zero : b ≡ 0 = eqb-true b 0 q in let one : b ≡ 1 = eqb-true b 1 s in absurd (omega (arith, zero, one))

-- ---- those in the owning group

-- a free id of a group, or all are listed
abbrev pub IsFreeGroup : Entries → Option Id → Type 0
IsFreeGroup B = IsFreeId (λ id. fin.contains_key B (group id))

-- the test is enough
pub owning_enough : (L B : Entries) (found : Option Id) (request og : ℕ) (gs : List ℕ) → Complete B
    → IsFreeGroup B found → owning_get L B (is_none found) request ≡ true → IsId og → is_member og gs ≡ true
    → stranger_grants B og gs request ≡ true
owning_enough L B found request og gs c free h id has =
    elim (or_cases (holds B group_obj request) (is_none found && all_hold L B Groups request) h) [
      | inl own ↦ granted_by_group B og gs request og c has (rw (eq-eqb og og refl, own) refl)
      | inr rest ↦ by found free (and_true (is_none found) (all_hold L B Groups request) rest)
    ]
  where
    by : (found : Option Id) → IsFreeGroup B found
        → (is_none found ≡ true) × (all_hold L B Groups request ≡ true) → stranger_grants B og gs request ≡ true
    by None free two = granted_by_group B og gs request og c has
        (rw (each_of L B Groups request (group og) two.1 (free og id) refl) (or_true_right _))
    by (Some f) free two = absurd (false≢true two.0)

-- and needed
pub owning_needed : (L B : Entries) (found : Option Id) (request : ℕ) → Complete B
    → ((t : Tag) → fin.contains_key B t ≡ true → IsTag t) → IsFreeGroup B found
    → ((og : ℕ) → IsId og → stranger_grants B og (og ∷ []) request ≡ true)
    → owning_get L B (is_none found) request ≡ true
owning_needed L B (Some f) request c within free every =
    elim (one_group B f.value f.value request c (every f.value f.within)) [
      | inl held ↦ elim (or_cases ((f.value == f.value) && holds B group_obj request) (holds B (group f.value) request)
          held) [
            | inl own ↦ rw (and_true (f.value == f.value) (holds B group_obj request) own).1 refl
            | inr named ↦ absurd (false≢true (sym free ∙ there_by B (group f.value) request named))
          ]
      | inr none ↦ absurd (false≢true (sym none.0 ∙ owns B f.value c))
    ]
owning_needed L B None request c within free every = by (holds B group_obj request) refl
  where
    listed : (id : ℕ) → IsId id → holds B group_obj request ≡ false → holds B (group id) request ≡ true
    listed id is e =
        elim (one_group B id id request c (every id is)) [
          | inl held ↦ elim (or_cases ((id == id) && holds B group_obj request) (holds B (group id) request) held) [
            | inl own ↦ absurd (false≢true (sym e ∙ (and_true (id == id) (holds B group_obj request) own).1))
            | inr named ↦ named
          ]
          | inr none ↦ absurd (false≢true (sym none.0 ∙ owns B id c))
        ]

    each : holds B group_obj request ≡ false → (t : Tag) → fin.contains_key B t ≡ true → is_of_class L Groups t ≡ true
        → holds B t request ≡ true
    each e (group id) there is = listed id (within (group id) there) e
    each e t there is = absurd (false≢true is)

    by : (b : Bool) → holds B group_obj request ≡ b → (b || all_hold L B Groups request) ≡ true
    by true e = refl
    by false e = all_of L B Groups request (each e)

-- ---- everybody

-- the test is enough
pub strangers_enough : (L B : Entries) (found : Option Id) (request og : ℕ) (gs : List ℕ) → Complete B
    → IsFreeGroup B found → strangers_get L B (is_none found) request ≡ true → IsId og
    → stranger_grants B og gs request ≡ true
strangers_enough L B found request og gs c free h id =
    let two = and_true (holds B other request) (all_hold L B Groups request && owning_get L B (is_none found) request)
    h in
    let both = and_true (all_hold L B Groups request) (owning_get L B (is_none found) request) two.1 in
    elim (cases_Bool (any_matches B og gs)) [
      | inl m ↦
          let (n, has, by) = some_member (group_contains B og 0) gs (sym (matched B og gs) ∙ m) in
          elim (or_cases ((n == og) && entry_contains B group_obj 0) (entry_contains B (group n) 0) by) [
            | inl owning ↦ owning_enough L B found request og gs c free both.1 id
                (ap (λ (k : ℕ). is_member k gs) (sym (eqb-true n og
                (and_true (n == og) (entry_contains B group_obj 0) owning).0)) ∙ has)
            | inr named ↦ granted_by_group B og gs request n c has (rw (each_of L B Groups request (group n) both.0
                (contained_some (fin.get B (group n)) 0 named) refl) (or_true_right _))
          ]
      | inr none ↦ granted_by_other B og gs request none
          (and_true (entry_contains B other request) true two.0).0
    ]

-- and needed, also for those in a group that the bound does not list
pub strangers_needed : (L B : Entries) (every : Bool) (request h : ℕ) → Complete B
    → ((t : Tag) → fin.contains_key B t ≡ true → IsTag t) → fin.contains_key B (group h) ≡ false
    → owning_get L B every request ≡ true
    → ((og : ℕ) (gs : List ℕ) → IsId og → is_member h gs ≡ true → stranger_grants B og gs request ≡ true)
    → strangers_get L B every request ≡ true
strangers_needed L B every request h c within unlisted own all =
    both_true _ _ rest (both_true _ _ (all_of L B Groups request each) own)
  where
    self : is_member h (h ∷ []) ≡ true
    self = rw (eq-eqb h h refl) refl

    rest : holds B other request ≡ true
    rest =
        let (og, is, out, _) = apart h h in
        elim (one_group B og h request c (all og (h ∷ []) is self)) [
          | inl held ↦ elim (or_cases ((h == og) && holds B group_obj request) (holds B (group h) request) held) [
            | inl own ↦ absurd (false≢true (sym out ∙ (and_true (h == og) (holds B group_obj request) own).0))
            | inr named ↦ absurd (false≢true (sym unlisted ∙ there_by B (group h) request named))
          ]
          | inr none ↦ none.1
        ]

    each : (t : Tag) → fin.contains_key B t ≡ true → is_of_class L Groups t ≡ true → holds B t request ≡ true
    each (group id) there is =
        let (og, is_id, ho, io) = apart h id in
        second_alone B og h id request c unlisted ho io there
        (all og (h ∷ id ∷ []) is_id (rw (eq-eqb h h refl) refl))
    each t there is = absurd (false≢true is)

-- ---- those in a group that the bound lists

-- the test of its entry is needed
pub group_needed : (B : Entries) (request h : ℕ) → Complete B → fin.contains_key B (group h) ≡ true
    → ((og : ℕ) (gs : List ℕ) → IsId og → is_member h gs ≡ true → stranger_grants B og gs request ≡ true)
    → holds B (group h) request ≡ true
group_needed B request h c there all =
    let (og, is, out, _) = apart h h in
    elim (one_group B og h request c (all og (h ∷ []) is (rw (eq-eqb h h refl) refl))) [
      | inl held ↦ elim (or_cases ((h == og) && holds B group_obj request) (holds B (group h) request) held) [
        | inl own ↦ absurd (false≢true (sym out ∙ (and_true (h == og) (holds B group_obj request) own).0))
        | inr named ↦ named
      ]
      | inr none ↦ absurd (false≢true (sym none.0 ∙ lists B og h there))
    ]

-- ---- those of whom the set lists no group

-- the test is enough
pub others_enough : (L B : Entries) (request og : ℕ) (gs : List ℕ) → Complete L → Complete B
    → others_get L B request ≡ true → any_matches L og gs ≡ false → stranger_grants B og gs request ≡ true
others_enough L B request og gs l c h out =
    let two = and_true (holds B other request) (all_hold L B NewGroups request) h in
    elim (cases_Bool (any_matches B og gs)) [
      | inl m ↦
          let (n, has, by) = some_member (group_contains B og 0) gs (sym (matched B og gs) ∙ m) in
          let unseen = λ (e : group_contains L og 0 n ≡ true).
          sym out ∙ (matched L og gs ∙ any_member (group_contains L og 0) gs n has e) in
          elim (or_cases ((n == og) && entry_contains B group_obj 0) (entry_contains B (group n) 0) by) [
            | inl owning ↦ absurd (false≢true (unseen (rw (
              (and_true (n == og) (entry_contains B group_obj 0) owning).0,
              contains_nothing (fin.get L group_obj) ∙ l.group,
            ) refl)))
            | inr named ↦ elim (cases_Bool (fin.contains_key L (group n))) [
              | inl listed ↦ absurd (false≢true (unseen (lists L og n listed)))
              | inr new ↦ granted_by_group B og gs request n c has (rw (each_of L B NewGroups request (group n)
                  two.1 (contained_some (fin.get B (group n)) 0 named) (rw new refl)) (or_true_right _))
            ]
          ]
      | inr none ↦ granted_by_other B og gs request none
          (and_true (entry_contains B other request) true two.0).0
    ]

-- and needed
pub others_needed : (L B : Entries) (request : ℕ) → Complete B
    → ((og : ℕ) (gs : List ℕ) → IsId og → any_matches L og gs ≡ false → stranger_grants B og gs request ≡ true)
    → others_get L B request ≡ true
others_needed L B request c all = both_true _ _ rest (all_of L B NewGroups request each)
  where
    rest : holds B other request ≡ true
    rest = elim (grantor B 0 [] request c (all 0 [] (omega arith) (matched L 0 []))) [
      | inl found ↦ absurd (false≢true found.1)
      | inr none ↦ rw none.1 refl
    ]

    each : (t : Tag) → fin.contains_key B t ≡ true → is_of_class L NewGroups t ≡ true → holds B t request ≡ true
    each (group id) there is =
        let (og, is_id, out, _) = apart id id in
        let unseen : group_contains L og 0 id ≡ false =
        rw (out, contains_nothing (fin.get L (group id)) ∙ not-true _ is) refl in
        elim (one_group B og id request c (all og (id ∷ []) is_id (matched L og (id ∷ []) ∙ rw unseen refl))) [
          | inl held ↦ elim (or_cases ((id == og) && holds B group_obj request) (holds B (group id) request) held) [
            | inl own ↦ absurd (false≢true (sym out ∙ (and_true (id == og) (holds B group_obj request) own).0))
            | inr named ↦ named
          ]
          | inr none ↦ absurd (false≢true (sym none.0 ∙ lists B og id there))
        ]
    each t there is = absurd (false≢true is)
