-- What a pruning keeps: what is granted, and the permissions of the entries that stay.
use Rattle.std.proofs.Common.{◌≡◌, ℕ, Bool, true, false, List, refl, sym, ap, ◌∙◌, arith, inl, inr}
use Rattle.std.proofs.lemmas.Bool.{cases_Bool, eq-eqb, eqb-true, false≢true, not-true, true≢false}
use Rattle.std.specs.Prelude.{◌==◌, ◌||◌, ◌↔◌, not}
use Rattle.std.specs.List.{list_any}
use Rattle.acl_perm.proofs.Bools.{and_true, or_true_right}
use Rattle.acl_perm.specs.Bits.{IsPerm}
use Rattle.acl_posix.specs.Check.{Object, Requester, is_member}
use Rattle.acl_posix.specs.Tag.{Tag, user_obj, user, group_obj, group, mask, other, is_named}
use Rattle.acl_nfs4.specs.Ace.{Ace}
use Rattle.acl_to_posix.specs.Pruning.{IsNameOf, LosesNothing, Prunes, none, next, taken_out}
use Rattle.acl_to_posix.specs.PruningLaws.{HasFewIds}
use Rattle.acl_to_posix.specs.ToPosix.{AlwaysHas, EntryShape, is_in_class, is_in_shape, looks_at}
use Rattle.acl_to_posix.specs.internal.ShapeBody.{tag_meets}
use Rattle.acl_to_posix.proofs.prunings.Losses.{IsPart, out_part, out_size, part_has}
use Rattle.acl_to_posix.proofs.prunings.KeptEntries.{entries_decide}
use Rattle.acl_to_posix.proofs.Matchings.{IsRest, Looks, looks_part, part_itself, part_of_part}
use Rattle.acl_to_posix.proofs.shapes.ShapeChecks.{any_member, class_parts, some_member}

-- ---- the tests of the check, and the entries at which it looks

-- the rest are those who are neither the owner nor a user with an entry
pub class_rest : (s : EntryShape) (object : Object) (requester : Requester) → is_in_class s object requester ≡ true
    → IsRest s.users (tag_meets object requester)
class_rest s object requester h =
    let two = class_parts s object requester h in record {
      owner = two.0;
      others = λ id has. elim (cases_Bool (requester.user == id)) [
        | inl same ↦ absurd (true≢false (sym has
            ∙ (ap (λ (n : ℕ). is_member n s.users) (sym (eqb-true requester.user id same)) ∙ two.1)))
        | inr differ ↦ differ
      ];
    }

-- those who are neither the owner nor a user with an entry are in the group class
pub rest_class : (s : EntryShape) (object : Object) (requester : Requester)
    → IsRest s.users (tag_meets object requester) → is_in_class s object requester ≡ true
rest_class s object requester r = rw (r.owner, absent) refl
  where
    absent : is_member requester.user s.users ≡ false
    absent = elim (cases_Bool (is_member requester.user s.users)) [
      | inl has ↦ absurd (true≢false (sym (eq-eqb requester.user requester.user refl) ∙ r.others requester.user has))
      | inr lacks ↦ lacks
    ]

-- no group of the requester is the owning group or has an entry
no_group : (own : ℕ) (named groups : List ℕ) → is_member own groups ≡ false
    → ((id : ℕ) → is_member id named ≡ true → is_member id groups ≡ false)
    → list_any (λ id. id == own || is_member id named) groups ≡ false
no_group own named groups outside apart = elim (cases_Bool (list_any (λ id. id == own || is_member id named) groups)) [
  | inl some ↦
      let (n, has, passes) = some_member (λ id. id == own || is_member id named) groups some in
      absurd (by n has (n == own) refl passes)
  | inr nothing ↦ nothing
]
  where
    by : (n : ℕ) → is_member n groups ≡ true → (b : Bool) → (n == own) ≡ b → (b || is_member n named) ≡ true → ⊥
    by n has true e passes = true≢false (sym has ∙ (ap (λ (k : ℕ). is_member k groups) (eqb-true n own e) ∙ outside))
    by n has false e passes = true≢false (sym has ∙ apart n passes)

-- each group of some groups is none of these
outside_all : (own : ℕ) (named groups : List ℕ) → list_any (λ id. id == own || is_member id named) groups ≡ false
    → (id : ℕ) → (id == own || is_member id named) ≡ true → is_member id groups ≡ false
outside_all own named groups nothing id passes = elim (cases_Bool (is_member id groups)) [
  | inl has ↦
      absurd (true≢false (sym (any_member (λ id. id == own || is_member id named) groups id has passes) ∙ nothing))
  | inr lacks ↦ lacks
]

-- if the check looks at an entry in a situation, it does under the matching of the situation
pub looks_of : (s : EntryShape) (object : Object) (requester : Requester) (e : Tag)
    → looks_at s object requester e ≡ true → Looks s (tag_meets object requester) e
looks_of s object requester user_obj l = l
looks_of s object requester (user id) l =
    let one = and_true (not (requester.user == object.user)) _ l in
    let two = and_true (requester.user == id) (is_member id s.users) one.1 in
    (not-true _ one.0, two.1, two.0)
looks_of s object requester group_obj l =
    let one = and_true (is_in_class s object requester) _ l in
    (class_rest s object requester one.0, one.1)
looks_of s object requester (group id) l =
    let one = and_true (is_in_class s object requester) _ l in
    let two = and_true (is_member id requester.groups) (is_member id s.groups) one.1 in
    (class_rest s object requester one.0, two.1, two.0)
looks_of s object requester mask l = absurd (false≢true l)
looks_of s object requester other l =
    let one = and_true (is_in_class s object requester) _ l in
    let lacks = outside_all object.group s.groups requester.groups (not-true _ one.1) in (
      class_rest s object requester one.0,
      lacks object.group (ap (λ (b : Bool). b || is_member object.group s.groups)
          (eq-eqb object.group object.group refl)),
      λ id has. lacks id (rw has (or_true_right (id == object.group))),
    )

-- if the check looks at an entry under the matching of a situation, it does in the situation
pub looks_from : (s : EntryShape) (object : Object) (requester : Requester) (e : Tag)
    → Looks s (tag_meets object requester) e → looks_at s object requester e ≡ true
looks_from s object requester user_obj l = l
looks_from s object requester (user id) l = rw (l.0, l.1, l.2) refl
looks_from s object requester group_obj l = rw (rest_class s object requester l.0, l.1) refl
looks_from s object requester (group id) l = rw (rest_class s object requester l.0, l.1, l.2) refl
looks_from s object requester mask l = absurd l
looks_from s object requester other l =
    rw (rest_class s object requester l.0, no_group object.group s.groups requester.groups l.1 l.2) refl

-- ---- one step

-- a shape without a name has few ids, too
HasFewIds-taken_out : (name : Tag) (shape : EntryShape) → HasFewIds shape → HasFewIds (taken_out name shape)
HasFewIds-taken_out name shape f =
    let p = out_part name shape in
    let less = out_size name shape in
    record {
      users = λ id h. f.users id (p.users id h);
      groups = λ id h. f.groups id (p.groups id h);
      few = omega (arith, f.few, less);
    }

-- the name that is taken out
pub name_of_few : (shape : EntryShape) (name : Tag) → HasFewIds shape → is_named name ≡ true
    → is_in_shape shape name ≡ true → IsNameOf shape name
name_of_few shape name f n there =
    record { named = n; there = there; users = f.users; groups = f.groups; few = f.few }

-- an entry of a part of a shape has what it has in the shape, if nothing is lost in the step
step_keeps : (list : List Ace) (shape : EntryShape) (name entry : Tag) (want : ℕ) → HasFewIds shape
    → is_named name ≡ true → is_in_shape shape name ≡ true → LosesNothing list shape (taken_out name shape)
    → is_in_shape (taken_out name shape) entry ≡ true → IsPerm want
    → AlwaysHas list shape entry want → AlwaysHas list (taken_out name shape) entry want
step_keeps list shape name entry want f n there loses stays small has = by entry stays has
  where
    t : EntryShape
    t = taken_out name shape

    by : (e : Tag) → is_in_shape (taken_out name shape) e ≡ true → AlwaysHas list shape e want
        → AlwaysHas list (taken_out name shape) e want
    by user_obj stays has = has
    by (user v) stays has = λ object requester asked l.
        let at = looks_of (taken_out name shape) object requester (user v) l in
        has object requester asked
        (looks_from shape object requester (user v) (at.0, (out_part name shape).users v at.1, at.2))
    by group_obj stays has =
        (entries_decide list shape name (name_of_few shape name f n there)).0 loses group_obj refl stays want
        small (inl has)
    by (group g) stays has =
        (entries_decide list shape name (name_of_few shape name f n there)).0 loses (group g) refl stays want
        small (inl has)
    by mask stays has = absurd (false≢true (part_has shape (taken_out name shape) mask (out_part name shape) stays))
    by other stays has =
        (entries_decide list shape name (name_of_few shape name f n there)).0 loses other refl stays want
        small (inl has)

-- with fewer names an entry has no more
pub part_keeps : (list : List Ace) (whole part : EntryShape) (entry : Tag) (want : ℕ) → IsPart whole part
    → is_in_shape part entry ≡ true → AlwaysHas list part entry want → AlwaysHas list whole entry want
part_keeps list whole part entry want p stays has object requester asked l = has object requester asked
    (looks_from part object requester entry
    (looks_part whole part (tag_meets object requester) entry p stays (looks_of whole object requester entry l)))

-- ---- all steps

-- the shape at the end of a pruning is a part of the first
pub pruned_part : (list : List Ace) (one two : EntryShape) → Prunes list one two → IsPart one two
pruned_part list a b (none shape) = part_itself shape
pruned_part list a b (next one two name n there loses rest) =
    part_of_part one (taken_out name one) two (out_part name one) (pruned_part list (taken_out name one) two rest)

-- a pruning loses nothing
pub pruning_loses_nothing : (list : List Ace) (one two : EntryShape) → Prunes list one two → LosesNothing list one two
pruning_loses_nothing list a b (none shape) = λ object requester asked want small g. g
pruning_loses_nothing list a b (next one two name n there loses rest) = λ object requester asked want small g.
    pruning_loses_nothing list (taken_out name one) two rest object requester asked want small
    (loses object requester asked want small g)

-- an entry that stays has what it had before the pruning
entries_stay : (list : List Ace) (one two : EntryShape) → Prunes list one two → HasFewIds one → (entry : Tag)
    → is_in_shape two entry ≡ true → (want : ℕ) → IsPerm want
    → AlwaysHas list one entry want → AlwaysHas list two entry want
entries_stay list a b (none shape) f entry stays want small has = has
entries_stay list a b (next one two name n there loses rest) f entry stays want small has =
    entries_stay list (taken_out name one) two rest (HasFewIds-taken_out name one f) entry stays want small
    (step_keeps list one name entry want f n there loses
    (part_has (taken_out name one) two entry (pruned_part list (taken_out name one) two rest) stays) small has)

-- an entry that a pruning keeps has the same permissions before and after
pub pruning_keeps_entries : (list : List Ace) (one two : EntryShape) → HasFewIds one → Prunes list one two
    → (entry : Tag) → is_in_shape two entry ≡ true → (want : ℕ) → IsPerm want
    → AlwaysHas list one entry want ↔ AlwaysHas list two entry want
pruning_keeps_entries list one two f p entry stays want small = (
  entries_stay list one two p f entry stays want small,
  part_keeps list one two entry want (pruned_part list one two p) stays,
)
