-- Prunings from two shapes whose names each decide what is granted: they end with the same names.
use Rattle.std.proofs.Common.{◌≡◌, ℕ, Bool, true, false, List, [], ◌∷◌, ◌++◌, refl, sym, ap, subst, ◌∙◌, inl, inr}
use Rattle.std.proofs.lemmas.Bool.{cases_Bool, eqb-true, false≢true, or_cases, true≢false}
use Rattle.std.specs.Prelude.{◌==◌, ◌&&◌, ◌||◌, not}
use Rattle.std.specs.Ordering.{eq_by_cmp}
use Rattle.acl_perm.proofs.Bools.{and_false_right, and_true, and_true_right, or_false_right, or_true_right}
use Rattle.acl_perm.specs.Bits.{IsPerm}
use Rattle.acl_posix.specs.Check.{is_member}
use Rattle.acl_posix.specs.Tag.{Tag, user_obj, user, group_obj, group, mask, other, IsTag, is_named, tag_cmp}
use Rattle.acl_posix.proofs.Exports.{same_tag}
use Rattle.acl_to_posix.specs.Pruning.{is_shared, taken_out}
use Rattle.acl_to_posix.specs.ToPosix.{EntryShape, is_in_shape}
use Rattle.acl_to_posix.proofs.Passes.{eq_by_cmp-refl}
use Rattle.acl_to_posix.proofs.SituationIds.{HasIds, entry_id}
use Rattle.acl_to_posix.proofs.prunings.Losses.{IsPart, but_keeps, member_but, out_part, part_has, part_ids}
use Rattle.acl_to_posix.proofs.prunings.KeptEntries.{not_owning}
use Rattle.acl_to_posix.proofs.Matchings.{IsMatching, IsRest, Looks, Matching, also, gone, looks_part, looks_rest, looks_there, moved, no_users, no_users_matching, one_user, out_differs, out_lacks, part_of_part, rest_part, IsTag-same}
use Rattle.acl_to_posix.proofs.prunings.PruningEnds.{OneGroupDenies}
use Rattle.acl_to_posix.proofs.prunings.PruningOrder.{below_by_entries, looks_one, one_end}
use Rattle.acl_to_posix.proofs.shapes.AclShapes.{member_of_two}
use Rattle.acl_to_posix.proofs.prunings.PruningSteps.{Below, Gives, Granting, IsPruned, Steps, has_part, no_step, not_owner, one_more, steps_part}
use Rattle.acl_to_posix.proofs.no_greatest.FreeIds.{is_member-append_left, is_member-append_right}

-- ---- shapes with the same names

-- two shapes have the same users and groups, in any order
pub record SameNames (s t : EntryShape) : Type 0 where
  pub part : IsPart s t
  pub whole : IsPart t s

-- if two shapes have the same users and groups, so they do in the other order
pub same_turned : (s t : EntryShape) → SameNames s t → SameNames t s
same_turned s t a = record { part = a.whole; whole = a.part }

-- two shapes with the names of a third have the same names
same_through : (s t u : EntryShape) → SameNames s t → SameNames t u → SameNames s u
same_through s t u a b = record { part = part_of_part s t u a.part b.part; whole = part_of_part u t s b.whole a.whole }

-- a part of a shape is still one without a name of both
out_of_both : (name : Tag) (s t : EntryShape) → IsPart s t → IsPart (taken_out name s) (taken_out name t)
out_of_both user_obj s t p = p
out_of_both (user u) s t p = record {
  users = λ id h. let two = member_but id u t.users h in but_keeps id u s.users (p.users id two.0) two.1;
  groups = p.groups;
}
out_of_both group_obj s t p = p
out_of_both (group g) s t p = record {
  users = p.users;
  groups = λ id h. let two = member_but id g t.groups h in but_keeps id g s.groups (p.groups id two.0) two.1;
}
out_of_both mask s t p = p
out_of_both other s t p = p

-- they still have the same without one name
same_out : (name : Tag) (s t : EntryShape) → SameNames s t → SameNames (taken_out name s) (taken_out name t)
same_out name s t a = record { part = out_of_both name s t a.part; whole = out_of_both name t s a.whole }

-- shapes with the same names give the same
same_gives : (f : Granting) (s t : EntryShape) (m : Matching) (want : ℕ) → SameNames s t → Gives f s m want
    → Gives f t m want
same_gives f s t m want a g =
    let there = looks_there s m g.entry g.looks in
    record {
      entry = g.entry;
      looks = looks_part s t m g.entry a.part (part_has t s g.entry a.whole there) g.looks;
      has = has_part f t s g.entry want a.whole there g.has;
    }

-- if a shape gives all that another gives, so it is for shapes with the same names
same_below : (f : Granting) (s t x y : EntryShape) → SameNames s x → SameNames t y → Below f s t → Below f x y
same_below f s t x y a b below m want ok small g =
    same_gives f t y m want b (below m want ok small (same_gives f x s m want (same_turned s x a) g))

-- no name can be taken out of either
same_pruned : (f : Granting) (s t : EntryShape) → SameNames s t → IsPruned f s → IsPruned f t
same_pruned f s t a last name n there below = last name n (part_has s t name a.part there)
    (same_below f t (taken_out name t) s (taken_out name s) (same_turned s t a)
    (same_turned (taken_out name s) (taken_out name t) (same_out name s t a)) below)

-- a pruning of a shape with the same names as the start, with the same names at the end
record Follows (f : Granting) (start end : EntryShape) : Type 0 where
  last : EntryShape
  steps : Steps f start last
  same : SameNames end last

-- what is taken out of one can be taken out of the other
same_steps : (f : Granting) (s t : EntryShape) → Steps f s t → (x : EntryShape) → SameNames s x → Follows f x t
same_steps f a b (no_step s) x same = record { last = x; steps = no_step x; same = same }
same_steps f a b (one_more s t name n there below rest) x same =
    let out = same_out name s x same in
    let next = same_steps f (taken_out name s) t rest (taken_out name x) out in
    record {
      last = next.last;
      steps = one_more x next.last name n (part_has x s name same.whole there)
          (same_below f s (taken_out name s) x (taken_out name x) same out below) next.steps;
      same = next.same;
    }

-- one pruning after another
steps_on : (f : Granting) (s t u : EntryShape) → Steps f s t → Steps f t u → Steps f s u
steps_on f a b u (no_step s) more = more
steps_on f a b u (one_more s t name n there below rest) more =
    one_more s u name n there below (steps_on f (taken_out name s) t u rest more)

-- ---- names that make no difference

-- two matchings differ at most at users and groups that the shape does not have
pub record AlikeFor (shape : EntryShape) (m n : Matching) : Type 0 where
  pub owner : m user_obj ≡ n user_obj
  pub users : (id : ℕ) → is_member id shape.users ≡ true → m (user id) ≡ n (user id)
  pub owning : m group_obj ≡ n group_obj
  pub groups : (id : ℕ) → is_member id shape.groups ≡ true → m (group id) ≡ n (group id)

-- such matchings are granted the same
abbrev pub NamesDecide : Granting → EntryShape → Type 0
NamesDecide f shape = (m n : Matching) (want : ℕ) → IsMatching m → IsMatching n → IsPerm want → AlikeFor shape m n
    → f want n → f want m

-- a tag of a shape is not one that the shape lacks
differs_from : (s : EntryShape) (x t : Tag) → is_in_shape s x ≡ false → is_in_shape s t ≡ true
    → eq_by_cmp tag_cmp t x ≡ false
differs_from s x t lacks there = elim (cases_Bool (eq_by_cmp tag_cmp t x)) [
  | inl same ↦ absurd (true≢false (sym there ∙ (ap (is_in_shape s) (same_tag t x same) ∙ lacks)))
  | inr differ ↦ differ
]

-- a part that lacks a name is a part without the name
part_without : (x : Tag) (s one : EntryShape) → IsPart s one → is_in_shape one x ≡ false → IsPart (taken_out x s) one
part_without x s one p lacks = record {
  users = λ id h. stays (user id) h (p.users id h);
  groups = λ id h. stays (group id) h (p.groups id h);
}
  where
    stays : (t : Tag) → is_in_shape one t ≡ true → is_in_shape s t ≡ true → is_in_shape (taken_out x s) t ≡ true
    stays t there whole = elim (cases_Bool (is_in_shape (taken_out x s) t)) [
      | inl left ↦ left
      | inr went ↦ absurd (true≢false (sym there ∙ (ap (is_in_shape one) (gone t x s whole went) ∙ lacks)))
    ]

-- the same without one tag
abbrev without : Tag → Matching → Matching
without x m = λ t. m t && not (eq_by_cmp tag_cmp t x)

-- another tag matches as before
without_other : (x t : Tag) (m : Matching) → eq_by_cmp tag_cmp t x ≡ false → without x m t ≡ m t
without_other x t m differ = rw differ (and_true_right (m t))

-- a tag that did not match does not match
without_fails : (x t : Tag) (m : Matching) → m t ≡ false → without x m t ≡ false
without_fails x t m outside = rw outside refl

-- a name is not EVERYONE@
not_everyone : (x : Tag) → is_named x ≡ true → eq_by_cmp tag_cmp other x ≡ false
not_everyone user_obj n = absurd (false≢true n)
not_everyone (user u) n = refl
not_everyone group_obj n = absurd (false≢true n)
not_everyone (group g) n = refl
not_everyone mask n = absurd (false≢true n)
not_everyone other n = absurd (false≢true n)

-- it is a matching, if the tag is USER or GROUP
without_matching : (x : Tag) (m : Matching) → is_named x ≡ true → IsMatching m → IsMatching (without x m)
without_matching x m n ok = record {
  everyone = without_other x other m (not_everyone x n) ∙ ok.everyone;
  one = λ u v h g. ok.one u v (and_true (m (user u)) _ h).0 (and_true (m (user v)) _ g).0;
  ids = λ t h. ok.ids t (and_true (m t) _ h).0;
}

-- for a shape that lacks the name, it is alike
without_alike : (x : Tag) (m : Matching) (one : EntryShape) → is_named x ≡ true → is_in_shape one x ≡ false
    → AlikeFor one m (without x m)
without_alike x m one n lacks = record {
  owner = sym (without_other x user_obj m (not_owner x n));
  users = λ id h. sym (without_other x (user id) m (differs_from one x (user id) lacks h));
  owning = sym (without_other x group_obj m (not_owning x n));
  groups = λ id h. sym (without_other x (group id) m (differs_from one x (group id) lacks h));
}

-- without the name, the check looks at a shared entry for somebody, and so with the name, if the name does not match
without_looks : (x : Tag) (s : EntryShape) (m : Matching) (e : Tag) → is_named x ≡ true → is_shared e ≡ true
    → is_in_shape (taken_out x s) e ≡ true → Looks (taken_out x s) m e → Looks s (without x m) e
without_looks x s m e n shared stays l =
    let rest = looks_rest (taken_out x s) m e shared l in
    looks_one x s (without x m) e n shared (part_has s (taken_out x s) e (out_part x s) stays)
    (rw (eq_by_cmp-refl x) (and_false_right (m x)))
    (moved (taken_out x s) (taken_out x s) m (without x m) e shared stays
    (record {
      owner = without_fails x user_obj m rest.owner;
      others = λ id h. without_fails x (user id) m (rest.others id h);
    })
    (record {
      owning = without_other x group_obj m (not_owning x n);
      named = λ id h. without_other x (group id) m (out_differs x (group id) s n h);
    })
    (λ id h. h) l)

-- somebody who is no user, with one more tag
with_matching : (x : Tag) (m : Matching) → IsTag x → IsMatching m → IsMatching (also x (no_users m))
with_matching x m is ok = record {
  everyone = rw ok.everyone refl;
  one = λ u v h g. one_user u v x h g;
  ids = λ t h. elim (or_cases (no_users m t) (eq_by_cmp tag_cmp t x) h) [
    | inl a ↦ (no_users_matching m ok).ids t a
    | inr b ↦ IsTag-same t x is b
  ];
}

-- it is alike for a shape that lacks the tag, if nobody of its users matches
with_alike : (x : Tag) (m : Matching) (one : EntryShape) → is_named x ≡ true → is_in_shape one x ≡ false
    → IsRest one.users m → AlikeFor one m (also x (no_users m))
with_alike x m one n lacks rest = record {
  owner = sym (ap (λ (b : Bool). m user_obj || b) (not_owner x n) ∙ or_false_right (m user_obj));
  users = λ id h. rest.others id h ∙ sym (differs_from one x (user id) lacks h);
  owning = sym (ap (λ (b : Bool). m group_obj || b) (not_owning x n) ∙ or_false_right (m group_obj));
  groups = λ id h. sym (ap (λ (b : Bool). m (group id) || b) (differs_from one x (group id) lacks h)
      ∙ or_false_right (m (group id)));
}

-- the check looks at the entry of the tag
with_looks : (x : Tag) (s : EntryShape) (m : Matching) → is_named x ≡ true → is_in_shape s x ≡ true → m user_obj ≡ false
    → Looks s (also x (no_users m)) x
with_looks user_obj s m n there outside = absurd (false≢true n)
with_looks (user u) s m n there outside =
    (or_false_right (m user_obj) ∙ outside, there, eq_by_cmp-refl (user u))
with_looks group_obj s m n there outside = absurd (false≢true n)
with_looks (group g) s m n there outside = (
  record { owner = or_false_right (m user_obj) ∙ outside; others = λ id h. refl },
  there,
  ap (λ (b : Bool). m (group g) || b) (eq_by_cmp-refl (group g)) ∙ or_true_right (m (group g)),
)
with_looks mask s m n there outside = absurd (false≢true n)
with_looks other s m n there outside = absurd (false≢true n)

-- a name that makes no difference can be taken out
idle_goes : (f : Granting) (one s : EntryShape) (x : Tag) → NamesDecide f one → HasIds s → IsPart s one
    → is_named x ≡ true → is_in_shape s x ≡ true → is_in_shape one x ≡ false → Below f s (taken_out x s)
idle_goes f one s x decide ids p n there lacks =
    below_by_entries f s x n there (λ e want shared stays small before m ok l. elim before [
      | inl has ↦ decide m (without x m) want ok (without_matching x m n ok) small (without_alike x m one n lacks)
          (has (without x m) (without_matching x m n ok) (without_looks x s m e n shared stays l))
      | inr had ↦
          let rest = looks_rest (taken_out x s) m e shared l in
          let fine = with_matching x m (entry_id s x ids there) ok in
          decide m (also x (no_users m)) want ok fine small
          (with_alike x m one n lacks (rest_part (taken_out x s) one m (part_without x s one p lacks) rest))
          (had (also x (no_users m)) fine (with_looks x s m n there rest.owner))
    ])

-- ---- all names that make no difference

-- what is left of a shape, without loss, when the names with certain ids that another shape lacks are taken out
record Cut (f : Granting) (one s : EntryShape) (kind : ℕ → Tag) (xs : List ℕ) : Type 0 where
  left : EntryShape
  steps : Steps f s left
  part : IsPart left one
  cut : (id : ℕ) → is_member id xs ≡ true → is_in_shape left (kind id) ≡ true → is_in_shape one (kind id) ≡ true

-- a tag that one shape has and another lacks is a name
name_of_one : (s one : EntryShape) (t : Tag) → is_in_shape s t ≡ true → is_in_shape one t ≡ false → is_named t ≡ true
name_of_one s one user_obj there lacks = absurd (true≢false lacks)
name_of_one s one (user u) there lacks = refl
name_of_one s one group_obj there lacks = absurd (true≢false lacks)
name_of_one s one (group g) there lacks = refl
name_of_one s one mask there lacks = absurd (false≢true there)
name_of_one s one other there lacks = absurd (true≢false lacks)

-- one id more
cut_first : (one left : EntryShape) (kind : ℕ → Tag) (x : ℕ) (xs : List ℕ)
    → (is_in_shape left (kind x) ≡ true → is_in_shape one (kind x) ≡ true)
    → ((id : ℕ) → is_member id xs ≡ true → is_in_shape left (kind id) ≡ true → is_in_shape one (kind id) ≡ true)
    → (id : ℕ) → is_member id (x ∷ xs) ≡ true → is_in_shape left (kind id) ≡ true → is_in_shape one (kind id) ≡ true
cut_first one left kind x xs first rest id h there = elim (or_cases (x == id) (is_member id xs) h) [
  | inl same ↦
      let is : x ≡ id = eqb-true x id same in
      subst (λ (n : ℕ). is_in_shape one (kind n) ≡ true) is
      (first (subst (λ (n : ℕ). is_in_shape left (kind n) ≡ true) (sym is) there))
  | inr more ↦ rest id more there
]

-- the names with these ids can be taken out
cut_names : (f : Granting) (one : EntryShape) (kind : ℕ → Tag) (xs : List ℕ) (s : EntryShape) → NamesDecide f one
    → HasIds s → IsPart s one → Cut f one s kind xs
cut_names f one kind [] s decide ids p =
    record { left = s; steps = no_step s; part = p; cut = λ id h there. absurd (false≢true h) }
cut_names f one kind (x ∷ xs) s decide ids p =
    elim (cases_Bool (is_in_shape one (kind x))) [
      | inl stays ↦ same (cut_names f one kind xs s decide ids p) (λ left part there. stays)
      | inr lacks ↦ elim (cases_Bool (is_in_shape s (kind x))) [
        | inr absent ↦ same (cut_names f one kind xs s decide ids p)
            (λ left part there. absurd (true≢false (sym (part_has s left (kind x) part there) ∙ absent)))
        | inl there ↦ goes lacks there (name_of_one s one (kind x) there lacks)
            (cut_names f one kind xs (taken_out (kind x) s) decide
            (part_ids s (taken_out (kind x) s) (out_part (kind x) s) ids) (part_without (kind x) s one p lacks))
      ]
    ]
  where
    same : Cut f one s kind xs
        → ((left : EntryShape) → IsPart s left → is_in_shape left (kind x) ≡ true → is_in_shape one (kind x) ≡ true)
        → Cut f one s kind (x ∷ xs)
    same c first = record {
      left = c.left;
      steps = c.steps;
      part = c.part;
      cut = cut_first one c.left kind x xs (first c.left (steps_part f s c.left c.steps)) c.cut;
    }

    goes : is_in_shape one (kind x) ≡ false → is_in_shape s (kind x) ≡ true → is_named (kind x) ≡ true
        → Cut f one (taken_out (kind x) s) kind xs → Cut f one s kind (x ∷ xs)
    goes lacks there n c = record {
      left = c.left;
      steps = one_more s c.left (kind x) n there (idle_goes f one s (kind x) decide ids p n there lacks) c.steps;
      part = c.part;
      cut = cut_first one c.left kind x xs (λ still. absurd (true≢false
          (sym (part_has (taken_out (kind x) s) c.left (kind x)
          (steps_part f (taken_out (kind x) s) c.left c.steps) still) ∙ out_lacks (kind x) s n))) c.cut;
    }

-- from a shape with more names, a pruning leads to the names of the other
cut_all : (f : Granting) (one s : EntryShape) → NamesDecide f one → HasIds s → IsPart s one → Follows f s one
cut_all f one s decide ids p =
    let first = cut_names f one (λ id. user id) s.users s decide ids p in
    let less = steps_part f s first.left first.steps in
    let second = cut_names f one (λ id. group id) first.left.groups first.left decide (part_ids s first.left less ids)
    first.part in
    let least = steps_part f first.left second.left second.steps in
    record {
      last = second.left;
      steps = steps_on f s first.left second.left first.steps second.steps;
      same = record {
        part = record {
          users = λ id h. first.cut id (less.users id (least.users id h)) (least.users id h);
          groups = λ id h. second.cut id (least.groups id h) h;
        };
        whole = second.part;
      };
    }

-- ---- the law

-- both starts together
abbrev both_starts : EntryShape → EntryShape → EntryShape
both_starts one three = record { users = one.users ++ three.users; groups = one.groups ++ three.groups }

-- their users and groups are ids if those of each are
both_ids : (one three : EntryShape) → HasIds one → HasIds three → HasIds (both_starts one three)
both_ids one three a b = record {
  users = λ id h. member_of_two id one.users three.users (a.users id) (b.users id) h;
  groups = λ id h. member_of_two id one.groups three.groups (a.groups id) (b.groups id) h;
}

-- from a shape with more names, a pruning ends with the names with which one from a shape with names that decide ends
from_more : (f : Granting) (one two s : EntryShape) → NamesDecide f one → HasIds s → IsPart s one → Steps f one two
    → Follows f s two
from_more f one two s decide ids p steps =
    let cut = cut_all f one s decide ids p in
    let on = same_steps f one two steps cut.last cut.same in
    record { last = on.last; steps = steps_on f s cut.last on.last cut.steps on.steps; same = on.same }

-- two prunings end with the same names, if each start has names that decide
pub two_starts : (f : Granting) (one two three four : EntryShape) → OneGroupDenies f → NamesDecide f one
    → NamesDecide f three → HasIds one → HasIds three → Steps f one two → IsPruned f two → Steps f three four
    → IsPruned f four → SameNames two four
two_starts f one two three four denies decide decide_too ids ids_too steps last steps_too last_too =
    let s = both_starts one three in
    let all = both_ids one three ids ids_too in
    let first = from_more f one two s decide all (record {
      users = λ id h. is_member-append_left id one.users three.users h;
      groups = λ id h. is_member-append_left id one.groups three.groups h;
    }) steps in
    let second = from_more f three four s decide_too all (record {
      users = λ id h. is_member-append_right id one.users three.users h;
      groups = λ id h. is_member-append_right id one.groups three.groups h;
    }) steps_too in
    let end = one_end f s first.last first.steps second.last denies all (same_pruned f two first.last first.same last)
    second.steps (same_pruned f four second.last second.same last_too) in
    same_through two second.last four (subst (λ (t : EntryShape). SameNames two t) end first.same)
    (same_turned four second.last second.same)
