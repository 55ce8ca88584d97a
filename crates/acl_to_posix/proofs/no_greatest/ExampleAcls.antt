-- The ACLs of the lists without a greatest sound POSIX ACL, and what they grant.
use Rattle.std.proofs.Common.{◌≡◌, ◌<◌, ℕ, Bool, true, false, cond, List, [], ◌∷◌, Option, None, Some, refl, sym, ap, subst, ◌∙◌, arith, inl, inr}
use Rattle.std.proofs.lemmas.Bool.{eqb-true, false≢true}
use Rattle.std.proofs.lemmas.Bool.Decides.{nat_tests}
use Rattle.std.proofs.lemmas.List.Elements.{All-from_recursion}
use Rattle.std.specs.Prelude.{◌==◌, ◌&&◌, ◌||◌, is_some}
use Rattle.std.specs.List.{AllByRecursion, list_any}
use Rattle.std.specs.Ordering.{eq_by_cmp}
use Rattle.std.specs.FinMap as fin
use Rattle.acl_perm.proofs.Bools.{and_false_right, or_false_right}
use Rattle.acl_perm.specs.Bits.{IsPerm, has_bit}
use Rattle.acl_posix.specs.Check.{Object, Requester, contains, entry_contains, grants, is_contained, is_member, any_matches, any_contains}
use Rattle.acl_posix.specs.Entries.{Entries, as_set}
use Rattle.acl_posix.specs.Excess.{GrantsNothingMore}
use Rattle.acl_posix.specs.Id.{IsId}
use Rattle.acl_posix.specs.Tag.{Tag, user_obj, user, group_obj, group, mask, other, is_named, tag_cmp}
use Rattle.acl_posix.specs.Valid.{IsValid, missing}
use Rattle.acl_posix.specs.internal.TagCode.{tags_total}
use Rattle.acl_eval.specs.Bridge.{image}
use Rattle.acl_eval.specs.BridgeLaws.{IsAsked}
use Rattle.acl_to_posix.specs.ToPosix.{HasShape, IsSound, EntryShape, is_in_shape}
use Rattle.acl_to_posix.specs.internal.ShapeBody.{always, column_decided_by, is_certain, may_match, tag_meets, empty_shape}
use Rattle.acl_to_posix.proofs.TagRequesters.{is_eq-nat_cmp}
use Rattle.acl_to_posix.proofs.shapes.ShapeChecks.{all_contain, choice_is, granted}
use Rattle.acl_eval.proofs.ValidChecks.{mask_contains}
use Rattle.acl_to_posix.proofs.SoundRules.{AreRules, Passes, Rule, no_right, read_right, rules_column, rules_decide, rules_list, write_right}

-- ---- requesters of an ACL

-- a requester who is not the owner and has an entry
at_user : (A : Entries) (object : Object) (requester : Requester) (want : ℕ) → IsValid A → contains 7 want ≡ true
    → (requester.user == object.user) ≡ false → fin.contains_key A (user requester.user) ≡ true
    → grants A object requester want ≡ (entry_contains A (user requester.user) want && mask_contains A want)
at_user A object requester want valid whole apart named =
    sym (choice_is A object requester want valid whole) ∙ rw (apart, named) refl

-- one who has none
pub at_class : (A : Entries) (object : Object) (requester : Requester) (want : ℕ) → IsValid A → contains 7 want ≡ true
    → (requester.user == object.user) ≡ false → fin.contains_key A (user requester.user) ≡ false
    → grants A object requester want ≡ cond (any_matches A object.group requester.groups)
    (any_contains A object.group requester.groups want && mask_contains A want) (entry_contains A other want)
at_class A object requester want valid whole apart unnamed =
    sym (choice_is A object requester want valid whole) ∙ rw (apart, unnamed) refl

-- the object of the examples: its owning group is the group 3
abbrev pub object_of : ℕ → Object
object_of owner = record { user = owner; group = 3 }

-- a requester with this id, in these groups
abbrev pub asks : ℕ → List ℕ → Requester
asks u gs = record { user = u; groups = gs }

-- an owner who is neither the user 1 nor another one
pub record IsOwner (free owner : ℕ) : Type 0 where
  pub is_id : IsId owner
  pub not_user : (1 == owner) ≡ false
  pub not_free : (free == owner) ≡ false

-- for each other user there is such an owner
pub some_owner : (free : ℕ) → (owner : ℕ) × IsOwner free owner
some_owner free = by (free == 0) refl
  where
    by : (b : Bool) → (free == 0) ≡ b → (owner : ℕ) × IsOwner free owner
    by true e = (
      2,
      record {
        is_id = omega arith;
        not_user = refl;
        not_free = ap (λ (n : ℕ). n == 2) (eqb-true free 0 e);
      },
    )
    by false e = (0, record { is_id = omega arith; not_user = refl; not_free = e })

-- numbers that differ do so in the other order
pub eqb-comm_false : (m n : ℕ) → (m == n) ≡ false → (n == m) ≡ false
eqb-comm_false m n h = grind (arith, nat_tests)

-- they are given by ids
are_asked : (free owner u : ℕ) (gs : List ℕ) → IsOwner free owner → IsId u → AllByRecursion IsId gs
    → IsAsked (object_of owner) (asks u gs)
are_asked free owner u gs o is all = record {
  owner = o.is_id;
  owning_group = omega arith;
  asker = is;
  groups = All-from_recursion IsId gs all;
}

-- what a set grants, another set that grants nothing less grants
pub lifted : (one above : Entries) (free owner u : ℕ) (gs : List ℕ) (want : ℕ) → GrantsNothingMore one above
    → IsOwner free owner → IsId u → IsPerm want → grants one (object_of owner) (asks u gs) want ≡ true
    → grants above (object_of owner) (asks u gs) want ≡ true
lifted one above free owner u gs want most o is few h = most want few (object_of owner) (asks u gs)
    (record { owner = o.is_id; group = omega arith; user = is }) h

-- an entry of a user gives the same rights whatever the groups are
pub own_entry : (A : Entries) (owner u : ℕ) (gs hs : List ℕ) (want : ℕ) → IsValid A → contains 7 want ≡ true
    → (u == owner) ≡ false → fin.contains_key A (user u) ≡ true
    → grants A (object_of owner) (asks u gs) want ≡ true → grants A (object_of owner) (asks u hs) want ≡ true
own_entry A owner u gs hs want valid whole apart named h =
    at_user A (object_of owner) (asks u hs) want valid whole apart named
    ∙ sym (at_user A (object_of owner) (asks u gs) want valid whole apart named) ∙ h

-- users without an entry get the same rights
pub no_entry : (A : Entries) (owner u v : ℕ) (gs : List ℕ) (want : ℕ) → IsValid A → contains 7 want ≡ true
    → (u == owner) ≡ false → (v == owner) ≡ false → fin.contains_key A (user u) ≡ false
    → fin.contains_key A (user v) ≡ false
    → grants A (object_of owner) (asks u gs) want ≡ true → grants A (object_of owner) (asks v gs) want ≡ true
no_entry A owner u v gs want valid whole apart differ unnamed nameless h =
    at_class A (object_of owner) (asks v gs) want valid whole differ nameless
    ∙ sym (at_class A (object_of owner) (asks u gs) want valid whole apart unnamed) ∙ h

-- ---- the entries of the ACLs

-- a list of entries in which one user has an entry has the shape of this user
some_cond : (b : Bool) (n : ℕ) → is_some (cond b (Some n) None) ≡ (b || false)
some_cond true n = refl
some_cond false n = refl

-- the shape with entries for the user 1 and the group 2
abbrev pub user_and_group : EntryShape
user_and_group = record { users = 1 ∷ []; groups = 2 ∷ [] }

-- the shape with an entry for the group 2 alone
abbrev pub group_alone : EntryShape
group_alone = record { users = []; groups = 2 ∷ [] }

-- the entries of an ACL for the user 1 and the group 2, with these permissions
abbrev pub full_set : ℕ → ℕ → ℕ → ℕ → ℕ → ℕ → List (Tag × ℕ)
full_set o u g n m r = (user_obj, o) ∷ (user 1, u) ∷ (group_obj, g) ∷ (group 2, n) ∷ (mask, m) ∷ (other, r) ∷ []

-- the entries of an ACL for the group 2 alone
abbrev pub group_set : ℕ → ℕ → ℕ → ℕ → ℕ → List (Tag × ℕ)
group_set o g n m r = (user_obj, o) ∷ (group_obj, g) ∷ (group 2, n) ∷ (mask, m) ∷ (other, r) ∷ []

-- the entries of an ACL for neither, with a MASK
abbrev pub bare_set : ℕ → ℕ → ℕ → ℕ → List (Tag × ℕ)
bare_set o g m r = (user_obj, o) ∷ (group_obj, g) ∷ (mask, m) ∷ (other, r) ∷ []

-- what a set has for a tag is what its list of entries has
found : (ps : List (Tag × ℕ)) (t : Tag) → fin.get (as_set ps) t ≡ fin.find tag_cmp t ps
found ps t = fin.get-from_entries tags_total ps t

-- a full set has entries for the user and the group
pub full_shape : (o u g n m r : ℕ) → HasShape user_and_group (as_set (full_set o u g n m r))
full_shape o u g n m r = record {
  users = λ id. ap (λ (x : Option ℕ). is_some x) (found (full_set o u g n m r) (user id))
      ∙ some_cond (eq_by_cmp tag_cmp (user id) (user 1)) u ∙ ap (λ (b : Bool). b || false) (is_eq-nat_cmp id 1);
  groups = λ id. ap (λ (x : Option ℕ). is_some x) (found (full_set o u g n m r) (group id))
      ∙ some_cond (eq_by_cmp tag_cmp (group id) (group 2)) n ∙ ap (λ (b : Bool). b || false) (is_eq-nat_cmp id 2);
}

-- a set with a group has an entry for the group alone
pub group_shape : (o g n m r : ℕ) → HasShape group_alone (as_set (group_set o g n m r))
group_shape o g n m r = record {
  users = λ id. ap (λ (x : Option ℕ). is_some x) (found (group_set o g n m r) (user id));
  groups = λ id. ap (λ (x : Option ℕ). is_some x) (found (group_set o g n m r) (group id))
      ∙ some_cond (eq_by_cmp tag_cmp (group id) (group 2)) n ∙ ap (λ (b : Bool). b || false) (is_eq-nat_cmp id 2);
}

-- a bare set has an entry for neither
pub bare_shape : (o g m r : ℕ) → HasShape empty_shape (as_set (bare_set o g m r))
bare_shape o g m r = record {
  users = λ id. ap (λ (x : Option ℕ). is_some x) (found (bare_set o g m r) (user id));
  groups = λ id. ap (λ (x : Option ℕ). is_some x) (found (bare_set o g m r) (group id));
}

-- a set with the four entries that have no name is valid
valid_with_mask : (E : Entries) → fin.contains_key E user_obj ≡ true → fin.contains_key E group_obj ≡ true
    → fin.contains_key E other ≡ true → fin.contains_key E mask ≡ true → IsValid E
unfolding missing
valid_with_mask E a b c m = rw (a, b, c, m, and_false_right (list_any is_named (fin.keys E))) refl

-- a full set is valid
pub full_valid : (o u g n m r : ℕ) → IsValid (as_set (full_set o u g n m r))
full_valid o u g n m r = let at = found (full_set o u g n m r) in
    valid_with_mask (as_set (full_set o u g n m r)) (ap (λ (x : Option ℕ). is_some x) (at user_obj))
    (ap (λ (x : Option ℕ). is_some x) (at group_obj)) (ap (λ (x : Option ℕ). is_some x) (at other))
    (ap (λ (x : Option ℕ). is_some x) (at mask))

-- a set with a group is valid
pub group_valid : (o g n m r : ℕ) → IsValid (as_set (group_set o g n m r))
group_valid o g n m r = let at = found (group_set o g n m r) in
    valid_with_mask (as_set (group_set o g n m r)) (ap (λ (x : Option ℕ). is_some x) (at user_obj))
    (ap (λ (x : Option ℕ). is_some x) (at group_obj)) (ap (λ (x : Option ℕ). is_some x) (at other))
    (ap (λ (x : Option ℕ). is_some x) (at mask))

-- a bare set is valid
pub bare_valid : (o g m r : ℕ) → IsValid (as_set (bare_set o g m r))
bare_valid o g m r = let at = found (bare_set o g m r) in
    valid_with_mask (as_set (bare_set o g m r)) (ap (λ (x : Option ℕ). is_some x) (at user_obj))
    (ap (λ (x : Option ℕ). is_some x) (at group_obj)) (ap (λ (x : Option ℕ). is_some x) (at other))
    (ap (λ (x : Option ℕ). is_some x) (at mask))

-- an entry without permissions passes
pub none_passes : (rules : List Rule) (shape : EntryShape) (t : Tag) → Passes rules shape t 0
none_passes rules shape t b h = absurd (no_right b h)

-- an entry with read passes if the pass answers for READ_DATA
pub read_passes : (rules : List Rule) (shape : EntryShape) (t : Tag)
    → always (is_certain t) (may_match shape t) (rules_column rules 0) ≡ true → Passes rules shape t 4
read_passes rules shape t one b h = subst
    (λ (n : ℕ). always (is_certain t) (may_match shape t) (rules_column rules n) ≡ true) (sym (read_right b h)) one

-- an entry with write passes if the pass answers for WRITE_DATA and APPEND_DATA
pub write_passes : (rules : List Rule) (shape : EntryShape) (t : Tag)
    → always (is_certain t) (may_match shape t) (rules_column rules 1) ≡ true
    → always (is_certain t) (may_match shape t) (rules_column rules 2) ≡ true → Passes rules shape t 2
write_passes rules shape t one two b h = elim (write_right b h) [
  | inl e ↦ subst (λ (n : ℕ). always (is_certain t) (may_match shape t) (rules_column rules n) ≡ true) (sym e) one
  | inr e ↦ subst (λ (n : ℕ). always (is_certain t) (may_match shape t) (rules_column rules n) ≡ true) (sym e) two
]

-- the one member of a list of one
one_member : (n id : ℕ) → is_member id (n ∷ []) ≡ true → n ≡ id
one_member n id h = eqb-true n id (sym (or_false_right (n == id)) ∙ h)

-- each entry of a set has permissions that pass
abbrev Each : List Rule → EntryShape → Entries → Type 0
Each rules shape E = (t : Tag) → is_in_shape shape t ≡ true
    → (p : ℕ) × (p < 8) × (fin.get E t ≡ Some p) × Passes rules shape t p

-- so it is for a full set, if its five entries pass
pub full_each : (rules : List Rule) (o u g n m r : ℕ) → o < 8 → u < 8 → g < 8 → n < 8 → r < 8
    → Passes rules user_and_group user_obj o → Passes rules user_and_group (user 1) u
    → Passes rules user_and_group group_obj g → Passes rules user_and_group (group 2) n
    → Passes rules user_and_group other r → Each rules user_and_group (as_set (full_set o u g n m r))
full_each rules o u g n m r lo lu lg ln lr po pu pg pn pr user_obj h =
    (o, lo, found (full_set o u g n m r) user_obj, po)
full_each rules o u g n m r lo lu lg ln lr po pu pg pn pr (user id) h = subst
    (λ (i : ℕ). (p : ℕ) × (p < 8) × (fin.get (as_set (full_set o u g n m r)) (user i) ≡ Some p)
    × Passes rules user_and_group (user i) p) (one_member 1 id h)
    (u, lu, found (full_set o u g n m r) (user 1), pu)
full_each rules o u g n m r lo lu lg ln lr po pu pg pn pr group_obj h =
    (g, lg, found (full_set o u g n m r) group_obj, pg)
full_each rules o u g n m r lo lu lg ln lr po pu pg pn pr (group id) h = subst
    (λ (i : ℕ). (p : ℕ) × (p < 8) × (fin.get (as_set (full_set o u g n m r)) (group i) ≡ Some p)
    × Passes rules user_and_group (group i) p) (one_member 2 id h)
    (n, ln, found (full_set o u g n m r) (group 2), pn)
full_each rules o u g n m r lo lu lg ln lr po pu pg pn pr mask h = absurd (false≢true h)
full_each rules o u g n m r lo lu lg ln lr po pu pg pn pr other h = (r, lr, found (full_set o u g n m r) other, pr)

-- so it is for a set with a group, if its four entries pass
pub group_each : (rules : List Rule) (o g n m r : ℕ) → o < 8 → g < 8 → n < 8 → r < 8
    → Passes rules group_alone user_obj o → Passes rules group_alone group_obj g → Passes rules group_alone (group 2) n
    → Passes rules group_alone other r → Each rules group_alone (as_set (group_set o g n m r))
group_each rules o g n m r lo lg ln lr po pg pn pr user_obj h = (o, lo, found (group_set o g n m r) user_obj, po)
group_each rules o g n m r lo lg ln lr po pg pn pr (user id) h = absurd (false≢true h)
group_each rules o g n m r lo lg ln lr po pg pn pr group_obj h = (g, lg, found (group_set o g n m r) group_obj, pg)
group_each rules o g n m r lo lg ln lr po pg pn pr (group id) h = subst
    (λ (i : ℕ). (p : ℕ) × (p < 8) × (fin.get (as_set (group_set o g n m r)) (group i) ≡ Some p)
    × Passes rules group_alone (group i) p) (one_member 2 id h)
    (n, ln, found (group_set o g n m r) (group 2), pn)
group_each rules o g n m r lo lg ln lr po pg pn pr mask h = absurd (false≢true h)
group_each rules o g n m r lo lg ln lr po pg pn pr other h = (r, lr, found (group_set o g n m r) other, pr)

-- so it is for a bare set, if its three entries pass
pub bare_each : (rules : List Rule) (o g m r : ℕ) → o < 8 → g < 8 → r < 8
    → Passes rules empty_shape user_obj o → Passes rules empty_shape group_obj g → Passes rules empty_shape other r
    → Each rules empty_shape (as_set (bare_set o g m r))
bare_each rules o g m r lo lg lr po pg pr user_obj h = (o, lo, found (bare_set o g m r) user_obj, po)
bare_each rules o g m r lo lg lr po pg pr (user id) h = absurd (false≢true h)
bare_each rules o g m r lo lg lr po pg pr group_obj h = (g, lg, found (bare_set o g m r) group_obj, pg)
bare_each rules o g m r lo lg lr po pg pr (group id) h = absurd (false≢true h)
bare_each rules o g m r lo lg lr po pg pr mask h = absurd (false≢true h)
bare_each rules o g m r lo lg lr po pg pr other h = (r, lr, found (bare_set o g m r) other, pr)

-- ---- what the ACLs grant

-- an entry with a MASK holds what both contain
masked_holds : (E : Entries) (t : Tag) (p m want : ℕ) → fin.get E t ≡ Some p → fin.get E mask ≡ Some m
    → contains p want ≡ true → contains m want ≡ true → (entry_contains E t want && mask_contains E want) ≡ true
masked_holds E t p m want e f h g = rw (e, f, h, g) refl

-- a member of the group reads by the entry of the group
pub group_reads : (o g n m r owner free u want : ℕ) → IsPerm want → (u == owner) ≡ false → contains n want ≡ true
    → contains m want ≡ true
    → grants (as_set (group_set o g n m r)) (object_of owner) (asks u (2 ∷ [])) want ≡ true
group_reads o g n m r owner free u want few apart h k = granted group_alone (as_set (group_set o g n m r))
    (object_of owner) (asks u (2 ∷ [])) want (group 2) (group_valid o g n m r) (group_shape o g n m r)
    (all_contain want few) (rw apart refl) (masked_holds (as_set (group_set o g n m r)) (group 2) n m want
    (found (group_set o g n m r) (group 2)) (found (group_set o g n m r) mask) h k)

-- the user has the entry of the user
pub user_has : (o v g n m r owner want : ℕ) → IsPerm want → (1 == owner) ≡ false → contains v want ≡ true
    → contains m want ≡ true
    → grants (as_set (full_set o v g n m r)) (object_of owner) (asks 1 []) want ≡ true
user_has o v g n m r owner want few apart h k = granted user_and_group (as_set (full_set o v g n m r))
    (object_of owner) (asks 1 []) want (user 1) (full_valid o v g n m r) (full_shape o v g n m r)
    (all_contain want few) (rw apart refl) (masked_holds (as_set (full_set o v g n m r)) (user 1) v m want
    (found (full_set o v g n m r) (user 1)) (found (full_set o v g n m r) mask) h k)

-- a stranger has what others have
pub stranger_has : (o v g n m r owner u want : ℕ) → IsPerm want → (u == owner) ≡ false → (1 == u) ≡ false
    → contains r want ≡ true
    → grants (as_set (full_set o v g n m r)) (object_of owner) (asks u []) want ≡ true
stranger_has o v g n m r owner u want few apart differ h = granted user_and_group (as_set (full_set o v g n m r))
    (object_of owner) (asks u []) want other (full_valid o v g n m r) (full_shape o v g n m r)
    (all_contain want few) (rw (apart, differ) refl)
    (ap (λ (x : Option ℕ). is_contained x want) (found (full_set o v g n m r) other) ∙ h)

-- a member of the group has what others have, if neither the user nor the group has an entry
pub member_has : (o g m r owner u want : ℕ) → IsPerm want → (u == owner) ≡ false → contains r want ≡ true
    → grants (as_set (bare_set o g m r)) (object_of owner) (asks u (2 ∷ [])) want ≡ true
member_has o g m r owner u want few apart h = granted empty_shape (as_set (bare_set o g m r))
    (object_of owner) (asks u (2 ∷ [])) want other (bare_valid o g m r) (bare_shape o g m r)
    (all_contain want few) (rw apart refl)
    (ap (λ (x : Option ℕ). is_contained x want) (found (bare_set o g m r) other) ∙ h)

-- what a sound ACL grants, the rules decide
pub decided_so : (rules : List Rule) (A : Entries) (free owner u : ℕ) (gs : List ℕ) (want b : ℕ) → AreRules rules
    → IsSound (rules_list rules) A → IsOwner free owner → IsId u → AllByRecursion IsId gs → IsPerm want
    → has_bit (image want) b ≡ true → grants A (object_of owner) (asks u gs) want ≡ true
    → column_decided_by (tag_meets (object_of owner) (asks u gs)) (rules_column rules b) false ≡ true
decided_so rules A free owner u gs want b are sound o is all few right allowed =
    let asked = are_asked free owner u gs o is all in
    sym (rules_decide rules (object_of owner) (asks u gs) b are asked)
    ∙ sound (object_of owner) (asks u gs) asked want few allowed b right
