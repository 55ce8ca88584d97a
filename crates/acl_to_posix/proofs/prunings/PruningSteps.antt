-- Names that are taken out, whatever is granted if certain principals match: what is granted may be any function of
-- these. The facts of a pruning follow for each such function.
use Rattle.std.proofs.Common.{◌≡◌, ℕ, Bool, true, false, refl, sym, ap, subst, ◌∙◌, inl, inr}
use Rattle.std.proofs.lemmas.Bool.{cases_Bool, false≢true, true≢false}
use Rattle.std.specs.Prelude.{◌||◌}
use Rattle.std.specs.Ordering.{eq_by_cmp}
use Rattle.acl_perm.proofs.Bools.{or_false_right, or_true_right}
use Rattle.acl_perm.specs.Bits.{IsPerm}
use Rattle.acl_posix.specs.Tag.{Tag, user_obj, user, group_obj, group, mask, other, is_named, tag_cmp}
use Rattle.acl_to_posix.specs.Pruning.{is_shared, taken_out}
use Rattle.acl_to_posix.specs.ToPosix.{EntryShape, is_in_shape}
use Rattle.acl_to_posix.proofs.Passes.{eq_by_cmp-refl}
use Rattle.acl_to_posix.proofs.SituationIds.{HasIds, entry_id}
use Rattle.acl_to_posix.proofs.prunings.Losses.{IsPart, out_part, part_has, part_ids}
use Rattle.acl_to_posix.proofs.prunings.KeptEntries.{not_owning}
use Rattle.acl_to_posix.proofs.Matchings.{IsMatching, IsRest, Looks, Matching, also, also_matching, alone, alone_looks, alone_matching, alone_only, gone, looks_part, looks_there, moved, out_differs, part_itself, part_of_part, rest_shared}

-- what is granted: some permissions, if these principals match
abbrev pub Granting : Type 1
Granting = ℕ → Matching → Type 0

-- the entry has the permissions: they are granted wherever the check looks at it
abbrev pub HasAlways : Granting → EntryShape → Tag → ℕ → Type 0
HasAlways f s e want = (m : Matching) → IsMatching m → Looks s m e → f want m

-- some entry at which the check looks has the permissions
pub record Gives (f : Granting) (s : EntryShape) (m : Matching) (want : ℕ) : Type 0 where
  pub entry : Tag
  pub looks : Looks s m entry
  pub has : HasAlways f s entry want

-- the second shape gives all that the first gives
abbrev pub Below : Granting → EntryShape → EntryShape → Type 0
Below f s t = (m : Matching) (want : ℕ) → IsMatching m → IsPerm want → Gives f s m want → Gives f t m want

-- names are taken out one after the other, and nothing is lost
pub data Steps (f : Granting) : EntryShape → EntryShape → Type 0 where
  no_step : (s : EntryShape) → Steps f s s
  one_more : (s t : EntryShape) (name : Tag) → is_named name ≡ true → is_in_shape s name ≡ true
      → Below f s (taken_out name s) → Steps f (taken_out name s) t → Steps f s t

-- no name can be taken out
abbrev pub IsPruned : Granting → EntryShape → Type 0
IsPruned f s = (name : Tag) → is_named name ≡ true → is_in_shape s name ≡ true → Below f s (taken_out name s) → ⊥

-- an entry has no more with fewer names
pub has_part : (f : Granting) (whole part : EntryShape) (e : Tag) (want : ℕ) → IsPart whole part
    → is_in_shape part e ≡ true → HasAlways f part e want → HasAlways f whole e want
has_part f whole part e want p there has m ok l = has m ok (looks_part whole part m e p there l)

-- what a shape gives to the strangers in the group of a shared entry, this entry has
pub alone_gives : (f : Granting) (s : EntryShape) (e : Tag) (want : ℕ) → is_shared e ≡ true → is_in_shape s e ≡ true
    → Gives f s (alone e) want → HasAlways f s e want
alone_gives f s e want shared there g =
    subst (λ (x : Tag). HasAlways f s x want) (alone_only s e g.entry shared there g.looks) g.has

-- ---- one step

-- a shared entry that stays loses nothing
shared_stays : (f : Granting) (s : EntryShape) (x e : Tag) (want : ℕ) → HasIds s → Below f s (taken_out x s)
    → is_shared e ≡ true → is_in_shape (taken_out x s) e ≡ true → IsPerm want
    → HasAlways f s e want → HasAlways f (taken_out x s) e want
shared_stays f s x e want ids below shared stays small has =
    let there = part_has s (taken_out x s) e (out_part x s) stays in
    alone_gives f (taken_out x s) e want shared stays
    (below (alone e) want (alone_matching e (entry_id s e ids there)) small
    (record { entry = e; looks = alone_looks s e shared there; has = has }))

-- an entry that stays loses nothing
pub step_stays : (f : Granting) (s : EntryShape) (x e : Tag) (want : ℕ) → HasIds s → Below f s (taken_out x s)
    → is_in_shape (taken_out x s) e ≡ true → IsPerm want
    → HasAlways f s e want → HasAlways f (taken_out x s) e want
step_stays f s x user_obj want ids below stays small has = has
step_stays f s x (user v) want ids below stays small has =
    λ m ok l. has m ok (l.0, (out_part x s).users v l.1, l.2)
step_stays f s x group_obj want ids below stays small has =
    shared_stays f s x group_obj want ids below refl stays small has
step_stays f s x (group g) want ids below stays small has =
    shared_stays f s x (group g) want ids below refl stays small has
step_stays f s x mask want ids below stays small has =
    absurd (false≢true (part_has s (taken_out x s) mask (out_part x s) stays))
step_stays f s x other want ids below stays small has = shared_stays f s x other want ids below refl stays small has

-- the check looked at the entry that goes, for strangers in the group of another who have it too
looks_gone : (s : EntryShape) (x e : Tag) → is_named x ≡ true → is_in_shape s x ≡ true → Looks s (also x (alone e)) x
looks_gone s user_obj e n there = absurd (false≢true n)
looks_gone s (user u) e n there = (refl, there, eq_by_cmp-refl (user u))
looks_gone s group_obj e n there = absurd (false≢true n)
looks_gone s (group g) e n there = (
  record { owner = refl; others = λ id h. refl },
  there,
  ap (λ (b : Bool). alone e (group g) || b) (eq_by_cmp-refl (group g)) ∙ or_true_right (alone e (group g)),
)
looks_gone s mask e n there = absurd (false≢true n)
looks_gone s other e n there = absurd (false≢true n)

-- and not the owner
pub not_owner : (x : Tag) → is_named x ≡ true → eq_by_cmp tag_cmp user_obj x ≡ false
not_owner user_obj n = absurd (false≢true n)
not_owner (user u) n = refl
not_owner group_obj n = absurd (false≢true n)
not_owner (group g) n = refl
not_owner mask n = absurd (false≢true n)
not_owner other n = absurd (false≢true n)

-- strangers in a group who have a name too are the same strangers for a shape without this name
pub also_same : (t : EntryShape) (x e : Tag) → is_named x ≡ true
    → ((y : Tag) → is_in_shape t y ≡ true → eq_by_cmp tag_cmp y x ≡ false)
    → (y : Tag) → Looks t (also x (alone e)) y → Looks t (alone e) y
also_same t x e n apart y l =
    moved t t (also x (alone e)) (alone e) y (rest_shared t (also x (alone e)) y rest l)
    (looks_there t (also x (alone e)) y l) (record { owner = refl; others = λ id h. refl })
    (record {
      owning = sym (ap (λ (b : Bool). alone e group_obj || b) (not_owning x n) ∙ or_false_right (alone e group_obj));
      named = λ id h. sym (ap (λ (b : Bool). alone e (group id) || b) (apart (group id) h)
          ∙ or_false_right (alone e (group id)));
    })
    (λ id h. h) l
  where
    rest : IsRest t.users (also x (alone e))
    rest = record { owner = not_owner x n; others = λ id h. apart (user id) h }

-- if an entry goes while it has permissions, all shared entries have them afterwards
pub step_leaves : (f : Granting) (s : EntryShape) (x e : Tag) (want : ℕ) → HasIds s → is_named x ≡ true
    → is_in_shape s x ≡ true → Below f s (taken_out x s) → is_shared e ≡ true → is_in_shape (taken_out x s) e ≡ true
    → IsPerm want → HasAlways f s x want → HasAlways f (taken_out x s) e want
step_leaves f s x e want ids n there below shared stays small has =
    let whole = part_has s (taken_out x s) e (out_part x s) stays in
    let g = below (also x (alone e)) want (also_matching x e (entry_id s x ids there) (entry_id s e ids whole)) small
    (record { entry = x; looks = looks_gone s x e n there; has = has }) in
    let l = also_same (taken_out x s) x e n (λ y h. out_differs x y s n h) g.entry g.looks in
    subst (λ (y : Tag). HasAlways f (taken_out x s) y want) (alone_only (taken_out x s) e g.entry shared stays l) g.has

-- ---- all steps

-- the shape after all steps is a part of the first
pub steps_part : (f : Granting) (s t : EntryShape) → Steps f s t → IsPart s t
steps_part f a b (no_step s) = part_itself s
steps_part f a b (one_more s t name n there below rest) =
    part_of_part s (taken_out name s) t (out_part name s) (steps_part f (taken_out name s) t rest)

-- an entry that stays has what it had
pub steps_stay : (f : Granting) (s t : EntryShape) → Steps f s t → HasIds s → (e : Tag) → is_in_shape t e ≡ true
    → (want : ℕ) → IsPerm want → HasAlways f s e want → HasAlways f t e want
steps_stay f a b (no_step s) ids e stays want small has = has
steps_stay f a b (one_more s t name n there below rest) ids e stays want small has =
    steps_stay f (taken_out name s) t rest (part_ids s (taken_out name s) (out_part name s) ids) e stays want small
    (step_stays f s name e want ids below
    (part_has (taken_out name s) t e (steps_part f (taken_out name s) t rest) stays) small has)

-- if an entry goes while it has permissions, all shared entries have them at the end
pub steps_leave : (f : Granting) (s t : EntryShape) → Steps f s t → HasIds s → (x : Tag) → is_named x ≡ true
    → is_in_shape s x ≡ true → is_in_shape t x ≡ false → (want : ℕ) → IsPerm want → HasAlways f s x want
    → (e : Tag) → is_shared e ≡ true → is_in_shape t e ≡ true → HasAlways f t e want
steps_leave f a b (no_step s) ids x n there absent want small has e shared stays =
    absurd (true≢false (sym there ∙ absent))
steps_leave f a b (one_more s t name named is_there below rest) ids x n there absent want small has e shared stays =
    elim (cases_Bool (is_in_shape (taken_out name s) x)) [
      | inl left ↦ steps_leave f (taken_out name s) t rest less x n left absent want small
          (step_stays f s name x want ids below left small has) e shared stays
      | inr went ↦
          let same : x ≡ name = gone x name s there went in
          steps_stay f (taken_out name s) t rest less e stays want small
          (step_leaves f s name e want ids named is_there below shared
          (part_has (taken_out name s) t e (steps_part f (taken_out name s) t rest) stays) small
          (subst (λ (y : Tag). HasAlways f s y want) same has))
    ]
  where
    less : HasIds (taken_out name s)
    less = part_ids s (taken_out name s) (out_part name s) ids
