-- The access check of a valid set, which has all entries that the check asks for.
use Rattle.std.proofs.Common.{◌≡◌, ℕ, Bool, true, false, cond, List, [], ◌∷◌, Option, Some, None, refl, sym, ap, ◌∙◌}
use Rattle.std.specs.Prelude.{◌&&◌, ◌||◌, ◌==◌, not, is_some, unwrap_or}
use Rattle.std.specs.List.{list_any}
use Rattle.std.specs.Int.Bits.{and_zero_r}
use Rattle.std.specs.Ordering.{eq_by_cmp}
use Rattle.std.specs.FinMap as fin
use Rattle.acl_perm.proofs.Bools.{and_swap, or_true_right, not_false}
use Rattle.acl_posix.specs.Tag.{Tag, user_obj, user, group_obj, group, mask, other, is_named, tag_cmp}
use Rattle.acl_posix.specs.Entries.{Entries, tags}
use Rattle.acl_posix.specs.Valid.{missing, IsValid}
use Rattle.acl_posix.specs.Mode.{perm_at}
use Rattle.acl_posix.specs.Check.{Object, Requester, contains, is_contained, entry_contains, is_member, any_matches, any_contains, class_contains, grants}
use Rattle.acl_posix.specs.internal.GroupSearch.{group_contains}
use Rattle.acl_posix.proofs.Exports.{any_group, contains_empty, is_none, same_tag}

-- MASK contains the request, or there is none
abbrev pub mask_contains : Entries → ℕ → Bool
mask_contains E want = contains (unwrap_or (fin.get E mask) 7) want

-- the check without the tests for missing entries
abbrev pub plain : Entries → Object → Requester → ℕ → Bool
plain E object requester want =
    cond (requester.user == object.user) (contains (perm_at E user_obj) want)
    (cond (fin.contains_key E (user requester.user))
    (contains (perm_at E (user requester.user)) want && mask_contains E want)
    (cond (any_matches E object.group requester.groups)
    (any_contains E object.group requester.groups want && mask_contains E want)
    (contains (perm_at E other) want)))

-- ---- what a valid set has

-- there are USER_OBJ, GROUP_OBJ and OTHER, and there is MASK if there is a USER or GROUP
pub record Complete (E : Entries) : Type 0 where
  pub owner : is_some (fin.get E user_obj) ≡ true
  pub group : is_some (fin.get E group_obj) ≡ true
  pub others : is_some (fin.get E other) ≡ true
  pub masked : (list_any is_named (fin.keys E) && not (is_some (fin.get E mask))) ≡ false

-- a valid set has all entries that it must have
pub valid_is_complete : (E : Entries) → IsValid E → Complete E
unfolding missing
valid_is_complete E v =
    let p = parts (is_some (fin.get E user_obj)) (is_some (fin.get E group_obj)) (is_some (fin.get E other))
    (list_any is_named (fin.keys E) && not (is_some (fin.get E mask))) v in
    record { owner = p.0; group = p.1; others = p.2; masked = p.3 }
  where
    parts : (a b c d : Bool) → cond (not a) (Some user_obj) (cond (not b) (Some group_obj)
        (cond (not c) (Some other) (cond d (Some mask) None))) ≡ None
        → (a ≡ true) × (b ≡ true) × (c ≡ true) × (d ≡ false)
    parts false b c d h = absurd cc
    parts true false c d h = absurd cc
    parts true true false d h = absurd cc
    parts true true true true h = absurd cc
    parts true true true false h = (refl, refl, refl, refl)

-- a list of entries in which a USER or GROUP is found has a named entry
named_there : (l : Tag) (ps : List (Tag × ℕ)) → is_named l ≡ true → is_some (fin.find tag_cmp l ps) ≡ true
    → list_any is_named (tags ps) ≡ true
named_there l [] named h = absurd cc
named_there l (p ∷ ps) named h =
    elim (eq_by_cmp tag_cmp l p.0) as (λ t. eq_by_cmp tag_cmp l p.0 ≡ t
    → is_some (cond t (Some p.1) (fin.find tag_cmp l ps)) ≡ true
    → (is_named p.0 || list_any is_named (tags ps)) ≡ true) [
      | true ↦ λ same _. ap (λ (b : Bool). b || list_any is_named (tags ps))
          (ap is_named (sym (same_tag l p.0 same)) ∙ named)
      | false ↦ λ same more. ap (λ (b : Bool). is_named p.0 || b) (named_there l ps named more)
          ∙ or_true_right (is_named p.0)
    ] refl h

-- a set with a USER or GROUP has a named entry
some_named : (E : Entries) (l : Tag) → is_named l ≡ true → is_some (fin.get E l) ≡ true
    → list_any is_named (fin.keys E) ≡ true
some_named E l named h =
    named_there l (fin.entries E) named (ap (λ (o : Option ℕ). is_some o) (sym (fin.get-entries E l)) ∙ h)

-- a valid set with a USER or GROUP has a MASK
pub has_mask : (E : Entries) (l : Tag) → Complete E → is_named l ≡ true → is_some (fin.get E l) ≡ true
    → is_some (fin.get E mask) ≡ true
has_mask E l c named h = not_false (is_some (fin.get E mask))
    (sym (ap (λ (b : Bool). b && not (is_some (fin.get E mask))) (some_named E l named h)) ∙ c.masked)

-- a valid set without MASK has no USER or GROUP
pub none_named : (E : Entries) (l : Tag) → Complete E → is_named l ≡ true → is_some (fin.get E mask) ≡ false
    → fin.get E l ≡ None
none_named E l c named no_mask = is_none (fin.get E l) (by (is_some (fin.get E l)) refl)
  where
    by : (b : Bool) → is_some (fin.get E l) ≡ b → b ≡ false
    by false e = refl
    by true e = let both = sym (has_mask E l c named e) ∙ no_mask in absurd cc

-- ---- the check

-- an entry of the set contains a request if and only if its permissions do
pub contains_there : (o : Option ℕ) (d want : ℕ) → is_some o ≡ true
    → contains (unwrap_or o d) want ≡ is_contained o want
contains_there None d want h = absurd cc
contains_there (Some n) d want h = refl

-- a condition on each of two alternatives can be tested once
and_spread : (x c y : Bool) → (((x && c) || false) || (y && c)) ≡ ((x || y) && c)
and_spread true true y = refl
and_spread true false true = refl
and_spread true false false = refl
and_spread false c y = refl

-- if no GROUP contains a request, a group of the requester contains it only as the owning group
only_owning : (E : Entries) (og want : ℕ) (gs : List ℕ) → ((id : ℕ) → entry_contains E (group id) want ≡ false)
    → list_any (group_contains E og want) gs ≡ (is_member og gs && entry_contains E group_obj want)
only_owning E og want [] none = refl
only_owning E og want (g ∷ gs) none =
    let owning : Bool = entry_contains E group_obj want in
    ap (λ (b : Bool). (((g == og) && owning) || b) || list_any (group_contains E og want) gs) (none g)
    ∙ ap (λ (b : Bool). (((g == og) && owning) || false) || b) (only_owning E og want gs none)
    ∙ and_spread (g == og) owning (is_member og gs)

-- without USER and GROUP only GROUP_OBJ can match
owning_alone : (E : Entries) (og want : ℕ) (gs : List ℕ) → Complete E → is_some (fin.get E mask) ≡ false
    → any_contains E og gs want ≡ (is_member og gs && entry_contains E group_obj want)
owning_alone E og want gs c no_mask =
    sym (any_group E og want gs)
    ∙ only_owning E og want gs (λ id. ap (λ (o : Option ℕ). is_contained o want)
    (none_named E (group id) c refl no_mask))

-- an entry that is there contains the empty request
pub contains_none : (o : Option ℕ) → is_some o ≡ true → is_contained o 0 ≡ true
contains_none None h = absurd cc
contains_none (Some n) h = rw (and_zero_r n) refl

-- if a match with the empty request holds, a match with a request is the test of this request
and_same : (m a e c : Bool) → (a ≡ (m && true)) → e ≡ (m && c) → a ≡ true → (e && true) ≡ c
and_same true a true true f g h = refl
and_same true a true false f g h = absurd cc
and_same true a false true f g h = absurd cc
and_same true a false false f g h = refl
and_same false a e c f g h = absurd cc

-- if the entry of a group matches, MASK and such an entry decide, or without MASK the entry of the owning group
pub class_plain : (E : Entries) (og want : ℕ) (gs : List ℕ) → Complete E → contains 7 want ≡ true
    → any_matches E og gs ≡ true
    → (any_contains E og gs want && mask_contains E want) ≡ class_contains E og gs want
class_plain E og want gs c whole matched = by (fin.get E mask) refl
  where
    by : (o : Option ℕ) → fin.get E mask ≡ o
        → (any_contains E og gs want && contains (unwrap_or o 7) want)
        ≡ cond (is_some o) (is_contained o want && any_contains E og gs want) (entry_contains E group_obj want)
    by (Some m) e = and_swap (any_contains E og gs want) (contains m want)
    by None e =
        let no_mask : is_some (fin.get E mask) ≡ false = ap (λ (o : Option ℕ). is_some o) e in
        let matches_is : any_matches E og gs ≡ (is_member og gs && true) = sym (contains_empty E og gs)
        ∙ owning_alone E og 0 gs c no_mask
        ∙ ap (λ (b : Bool). is_member og gs && b) (contains_none (fin.get E group_obj) c.group) in
        ap (λ (b : Bool). any_contains E og gs want && b) whole
        ∙ and_same (is_member og gs) (any_matches E og gs) (any_contains E og gs want)
        (entry_contains E group_obj want) matches_is (owning_alone E og want gs c no_mask) matched

-- two choices by one test are the same if their two answers are, the first pair where the test holds
pub same_choice : (t : Bool) {a b c d : Bool} → (t ≡ true → a ≡ b) → c ≡ d → cond t a c ≡ cond t b d
same_choice true f e = f refl
same_choice false f e = e

-- for a valid set, the check needs no tests for missing entries
pub plain_check : (E : Entries) (object : Object) (requester : Requester) (want : ℕ) → IsValid E
    → contains 7 want ≡ true → plain E object requester want ≡ grants E object requester want
unfolding grants
plain_check E object requester want valid whole =
    let c = valid_is_complete E valid in
    let u : Tag = user requester.user in
    same_choice (requester.user == object.user) (λ _. contains_there (fin.get E user_obj) 0 want c.owner)
    (same_choice (fin.contains_key E u)
    (λ has. ap (λ (b : Bool). b && mask_contains E want) (contains_there (fin.get E u) 0 want has)
    ∙ ap (λ (b : Bool). entry_contains E u want && b)
    (contains_there (fin.get E mask) 7 want (has_mask E u c refl has)))
    (same_choice (any_matches E object.group requester.groups)
    (λ matched. class_plain E object.group want requester.groups c whole matched)
    (contains_there (fin.get E other) 0 want c.others)))
