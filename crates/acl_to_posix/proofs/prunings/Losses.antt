-- What is lost if a user or a group gets no entry: the other entries decide it.
use Rattle.std.proofs.Common.{◌≡◌, ◌≤◌, ℕ, Bool, true, false, List, [], ◌∷◌, length, refl, sym, ap, subst, ◌∙◌, arith, inl, inr}
use Rattle.std.proofs.lemmas.Bool.{cases_Bool, eqb-true, false≢true, not-true, or_cases, true≢false, or_parts}
use Rattle.std.proofs.lemmas.List.Sums.{count_by-le-length, length-filter}
use Rattle.std.specs.Prelude.{◌⊎◌, ◌==◌, ◌||◌, filter, if◌then◌else◌, not}
use Rattle.std.specs.List.{list_any}
use Rattle.acl_perm.proofs.Bools.{and_true, or_true_right}
use Rattle.acl_perm.specs.Bits.{IsPerm}
use Rattle.acl_posix.specs.Check.{Object, Requester, is_member}
use Rattle.acl_posix.specs.Tag.{Tag, user_obj, user, group_obj, group, mask, other, is_named}
use Rattle.acl_nfs4.specs.Ace.{Ace}
use Rattle.acl_to_posix.specs.Pruning.{KeepsEntries, LosesNothing, ShapeGrants, shape_without, is_shared, taken_out}
use Rattle.acl_to_posix.specs.ToPosix.{AlwaysHas, EntryShape, is_in_class, is_in_shape, looks_at, size_of}
use Rattle.acl_to_posix.specs.internal.ShapeBody.{TagColumn}
use Rattle.acl_to_posix.proofs.no_greatest.FreeIds.{AreFree}
use Rattle.acl_to_posix.proofs.SituationIds.{HasIds}
use Rattle.acl_to_posix.proofs.shapes.ShapeChecks.{class_parts, some_member}

-- ---- numbers without one of them

-- numbers without one of them do not have it
pub but_lacks : (id : ℕ) (xs : List ℕ) → is_member id (shape_without id xs) ≡ false
but_lacks id [] = refl
but_lacks id (x ∷ xs) = by (but_lacks id xs) (x == id) refl
  where
    by : is_member id (shape_without id xs) ≡ false → (b : Bool) → (x == id) ≡ b
        → is_member id (if not b then x ∷ shape_without id xs else shape_without id xs) ≡ false
    by rest true e = rest
    by rest false e = rw (e, rest) refl

-- what numbers without one of them have, all of them have, and it differs from that one
pub member_but : (n id : ℕ) (xs : List ℕ) → is_member n (shape_without id xs) ≡ true
    → (is_member n xs ≡ true) × ((n == id) ≡ false)
member_but n id [] h = absurd cc
member_but n id (x ∷ xs) h = by (member_but n id xs) (x == id) refl h
  where
    by : (is_member n (shape_without id xs) ≡ true → (is_member n xs ≡ true) × ((n == id) ≡ false)) → (b : Bool)
        → (x == id) ≡ b → is_member n (if not b then x ∷ shape_without id xs else shape_without id xs) ≡ true
        → (is_member n (x ∷ xs) ≡ true) × ((n == id) ≡ false)
    by rest true e h = let two = rest h in
        (ap (λ (b : Bool). (x == n) || b) two.0 ∙ or_true_right (x == n), two.1)
    by rest false e h = elim (or_cases (x == n) (is_member n (shape_without id xs)) h) [
      | inl same ↦ (
        ap (λ (b : Bool). b || is_member n xs) same,
        ap (λ (m : ℕ). m == id) (sym (eqb-true x n same)) ∙ e,
      )
      | inr more ↦ let two = rest more in
          (ap (λ (b : Bool). (x == n) || b) two.0 ∙ or_true_right (x == n), two.1)
    ]

-- numbers without one of them have each other one
pub but_keeps : (n id : ℕ) (xs : List ℕ) → is_member n xs ≡ true → (n == id) ≡ false
    → is_member n (shape_without id xs) ≡ true
but_keeps n id [] h differ = absurd cc
but_keeps n id (x ∷ xs) h differ = by (λ g. but_keeps n id xs g differ) (x == id) refl
    (or_cases (x == n) (is_member n xs) h)
  where
    by : (is_member n xs ≡ true → is_member n (shape_without id xs) ≡ true) → (b : Bool) → (x == id) ≡ b
        → ((x == n) ≡ true) ⊎ (is_member n xs ≡ true)
        → is_member n (if not b then x ∷ shape_without id xs else shape_without id xs) ≡ true
    by rest true e (inl same) = absurd (true≢false (sym e ∙ (ap (λ (m : ℕ). m == id) (eqb-true x n same) ∙ differ)))
    by rest true e (inr more) = rest more
    by rest false e (inl same) = ap (λ (b : Bool). b || is_member n (shape_without id xs)) same
    by rest false e (inr more) = ap (λ (b : Bool). (x == n) || b) (rest more) ∙ or_true_right (x == n)

-- a list is not longer without some of its elements
pub no_longer : {X : Type 0} (keep : X → Bool) (xs : List X) → length (filter keep xs) ≤ length xs
no_longer keep xs = omega (arith, length-filter keep xs, count_by-le-length keep xs)

-- ---- a part of a shape

-- the second shape has no user and no group that the first lacks
pub record IsPart (whole part : EntryShape) : Type 0 where
  pub users : (id : ℕ) → is_member id part.users ≡ true → is_member id whole.users ≡ true
  pub groups : (id : ℕ) → is_member id part.groups ≡ true → is_member id whole.groups ≡ true

-- a shape without a name is a part of the shape
pub out_part : (name : Tag) (shape : EntryShape) → IsPart shape (taken_out name shape)
out_part user_obj shape = record { users = λ id h. h; groups = λ id h. h }
out_part (user u) shape = record { users = λ id h. (member_but id u shape.users h).0; groups = λ id h. h }
out_part group_obj shape = record { users = λ id h. h; groups = λ id h. h }
out_part (group g) shape = record { users = λ id h. h; groups = λ id h. (member_but id g shape.groups h).0 }
out_part mask shape = record { users = λ id h. h; groups = λ id h. h }
out_part other shape = record { users = λ id h. h; groups = λ id h. h }

-- a shape without a name is no larger
pub out_size : (name : Tag) (shape : EntryShape) → size_of (taken_out name shape) ≤ size_of shape
out_size user_obj shape = omega arith
out_size (user u) shape = omega (arith, no_longer (λ n. not (n == u)) shape.users)
out_size group_obj shape = omega arith
out_size (group g) shape = omega (arith, no_longer (λ n. not (n == g)) shape.groups)
out_size mask shape = omega arith
out_size other shape = omega arith

-- if the users and groups of a shape are ids, so are those of a part
pub part_ids : (whole part : EntryShape) → IsPart whole part → HasIds whole → HasIds part
part_ids whole part p ids =
    record { users = λ id h. ids.users id (p.users id h); groups = λ id h. ids.groups id (p.groups id h) }

-- a member of neither list
lacks_part : (id : ℕ) (whole part : List ℕ) → (is_member id part ≡ true → is_member id whole ≡ true)
    → is_member id whole ≡ false → is_member id part ≡ false
lacks_part id whole part within lacking = elim (cases_Bool (is_member id part)) [
  | inl has ↦ absurd (true≢false (sym (within has) ∙ lacking))
  | inr none ↦ none
]

-- a requester without an entry in a shape has none in a part of it
pub class_part : (whole part : EntryShape) (object : Object) (requester : Requester) → IsPart whole part
    → is_in_class whole object requester ≡ true → is_in_class part object requester ≡ true
class_part whole part object requester w h =
    let two = class_parts whole object requester h in
    rw (two.0, lacks_part requester.user whole.users part.users (w.users requester.user) two.1) refl

-- an entry of a part is an entry of the shape
pub part_has : (whole part : EntryShape) (t : Tag) → IsPart whole part → is_in_shape part t ≡ true
    → is_in_shape whole t ≡ true
part_has whole part user_obj w h = h
part_has whole part (user id) w h = w.users id h
part_has whole part group_obj w h = h
part_has whole part (group id) w h = w.groups id h
part_has whole part mask w h = h
part_has whole part other w h = h

-- ids that a shape does not have are not in a part of it
pub free_part : (whole part : EntryShape) (keys : TagColumn) (free next own : ℕ) → IsPart whole part
    → AreFree whole keys free next own → AreFree part keys free next own
free_part whole part keys free next own w f = record {
  free_id = f.free_id;
  next_id = f.next_id;
  own_id = f.own_id;
  free_user = lacks_part free whole.users part.users (w.users free) f.free_user;
  free_key = f.free_key;
  differ = f.differ;
  next_user = λ id h. f.next_user id (w.users id h);
  next_key = f.next_key;
  own_group = λ id h. f.own_group id (w.groups id h);
  own_key = f.own_key;
}

-- the check looks at some shared entry for each requester without an entry
record IsShared (shape : EntryShape) (object : Object) (requester : Requester) : Type 0 where
  entry : Tag
  shared : is_shared entry ≡ true
  there : is_in_shape shape entry ≡ true
  looks : looks_at shape object requester entry ≡ true

-- it does for each requester who is not the owner and has no USER entry
some_shared : (shape : EntryShape) (object : Object) (requester : Requester) → is_in_class shape object requester ≡ true
    → IsShared shape object requester
some_shared shape object requester class = elim (cases_Bool (is_member object.group requester.groups)) [
  | inl owning ↦ record { entry = group_obj; shared = refl; there = refl; looks = rw (class, owning) refl }
  | inr outside ↦
      elim (cases_Bool (list_any (λ id. id == object.group || is_member id shape.groups) requester.groups)) [
        | inl some ↦
            let (n, has, passes) = some_member (λ id. id == object.group || is_member id shape.groups) requester.groups
            some in
            elim (or_cases (n == object.group) (is_member n shape.groups) passes) [
              | inl same ↦ absurd (true≢false (sym has
                  ∙ (ap (λ (m : ℕ). is_member m requester.groups) (eqb-true n object.group same) ∙ outside)))
              | inr named ↦
                  record { entry = group n; shared = refl; there = named; looks = rw (class, has, named) refl }
            ]
        | inr none ↦ record { entry = other; shared = refl; there = refl; looks = rw (class, none) refl }
      ]
]

-- ---- nothing is lost if the other entries keep what they had and have what the entry had

-- a requester of whom the check asks no entry of a user
again : (list : List Ace) (shape : EntryShape) (name : Tag) (object : Object) (requester : Requester) (want : ℕ)
    → KeepsEntries list shape name → IsPerm want → is_in_class (taken_out name shape) object requester ≡ true
    → AlwaysHas list shape name want → ShapeGrants list (taken_out name shape) object requester want
again list shape name object requester want keeps few class has =
    let s = some_shared (taken_out name shape) object requester class in
    record { entry = s.entry; looks = s.looks; has = keeps s.entry s.shared s.there want few (inr has) }

-- fewer numbers pass a test of membership
pub none_less : (own : ℕ) (whole part gs : List ℕ) → ((id : ℕ) → is_member id part ≡ true → is_member id whole ≡ true)
    → list_any (λ id. id == own || is_member id whole) gs ≡ false
    → list_any (λ id. id == own || is_member id part) gs ≡ false
none_less own whole part [] within h = refl
none_less own whole part (g ∷ gs) within h =
    let two = or_parts (g == own || is_member g whole) (list_any (λ id. id == own || is_member id whole) gs) h in
    let one = or_parts (g == own) (is_member g whole) two.0 in
    rw (one.0, lacks_part g whole part (within g) one.1, none_less own whole part gs within two.1) refl

-- the user who was taken out is in the class of the others
out_class : (shape : EntryShape) (u : ℕ) (object : Object) (requester : Requester)
    → looks_at shape object requester (user u) ≡ true → is_in_class (taken_out (user u) shape) object requester ≡ true
out_class shape u object requester l =
    let one = and_true (not (requester.user == object.user)) _ l in
    let two = and_true (requester.user == u) (is_member u shape.users) one.1 in
    let lacking : is_member requester.user (shape_without u shape.users) ≡ false =
    ap (λ (n : ℕ). is_member n (shape_without u shape.users)) (eqb-true requester.user u two.0)
    ∙ but_lacks u shape.users in
    rw (not-true _ one.0, lacking) refl

-- a user who stays
user_stays : (list : List Ace) (shape : EntryShape) (u v : ℕ) (object : Object) (requester : Requester) (want : ℕ)
    → (v == u) ≡ false → looks_at shape object requester (user v) ≡ true → AlwaysHas list shape (user v) want
    → ShapeGrants list (taken_out (user u) shape) object requester want
user_stays list shape u v object requester want differ l has =
    let one = and_true (not (requester.user == object.user)) _ l in
    let two = and_true (requester.user == v) (is_member v shape.users) one.1 in
    record {
      entry = user v;
      looks = rw (not-true _ one.0, two.0, but_keeps v u shape.users two.1 differ) refl;
      has = λ o r asked m.
          let a = and_true (not (r.user == o.user)) _ m in
          let b = and_true (r.user == v) (is_member v (shape_without u shape.users)) a.1 in
          has o r asked (rw (not-true _ a.0, b.0, (member_but v u shape.users b.1).0) refl);
    }

-- if the entries that stay have what they had, and what the name had, nothing is lost
pub nothing_lost : (list : List Ace) (shape : EntryShape) (name : Tag) → is_named name ≡ true
    → KeepsEntries list shape name → LosesNothing list shape (taken_out name shape)
nothing_lost list shape name named keeps object requester asked want few g = by name named keeps g.entry g.looks g.has
  where
    class : (n : Tag) → is_in_class shape object requester ≡ true
        → is_in_class (taken_out n shape) object requester ≡ true
    class n h = class_part shape (taken_out n shape) object requester (out_part n shape) h

    by : (n : Tag) → is_named n ≡ true → KeepsEntries list shape n → (e : Tag)
        → looks_at shape object requester e ≡ true → AlwaysHas list shape e want
        → ShapeGrants list (taken_out n shape) object requester want
    by user_obj d k e l h = absurd (false≢true d)
    by group_obj d k e l h = absurd (false≢true d)
    by mask d k e l h = absurd (false≢true d)
    by other d k e l h = absurd (false≢true d)
    by (user u) d k user_obj l h = record { entry = user_obj; looks = l; has = h }
    by (user u) d k (user v) l h = elim (cases_Bool (v == u)) [
      | inl same ↦
          let is : v ≡ u = eqb-true v u same in
          again list shape (user u) object requester want k few
          (out_class shape u object requester
          (subst (λ (n : ℕ). looks_at shape object requester (user n) ≡ true) is l))
          (subst (λ (n : ℕ). AlwaysHas list shape (user n) want) is h)
      | inr differ ↦ user_stays list shape u v object requester want differ l h
    ]
    by (user u) d k group_obj l h =
        let two = and_true (is_in_class shape object requester) _ l in
        record {
          entry = group_obj;
          looks = rw (class (user u) two.0, two.1) refl;
          has = k group_obj refl refl want few (inl h);
        }
    by (user u) d k (group v) l h =
        let two = and_true (is_in_class shape object requester) _ l in
        let one = and_true (is_member v requester.groups) (is_member v shape.groups) two.1 in
        record {
          entry = group v;
          looks = rw (class (user u) two.0, one.0, one.1) refl;
          has = k (group v) refl one.1 want few (inl h);
        }
    by (user u) d k mask l h = absurd (false≢true l)
    by (user u) d k other l h =
        let two = and_true (is_in_class shape object requester) _ l in
        record {
          entry = other;
          looks = rw (class (user u) two.0, not-true _ two.1) refl;
          has = k other refl refl want few (inl h);
        }
    by (group u) d k user_obj l h = record { entry = user_obj; looks = l; has = h }
    by (group u) d k (user v) l h = record { entry = user v; looks = l; has = h }
    by (group u) d k group_obj l h =
        let two = and_true (is_in_class shape object requester) _ l in
        record {
          entry = group_obj;
          looks = rw (class (group u) two.0, two.1) refl;
          has = k group_obj refl refl want few (inl h);
        }
    by (group u) d k (group v) l h =
        let two = and_true (is_in_class shape object requester) _ l in
        let one = and_true (is_member v requester.groups) (is_member v shape.groups) two.1 in
        elim (cases_Bool (v == u)) [
          | inl same ↦ again list shape (group u) object requester want k few (class (group u) two.0)
              (subst (λ (n : ℕ). AlwaysHas list shape (group n) want) (eqb-true v u same) h)
          | inr differ ↦
              let stays = but_keeps v u shape.groups one.1 differ in
              record {
                entry = group v;
                looks = rw (class (group u) two.0, one.0, stays) refl;
                has = k (group v) refl stays want few (inl h);
              }
        ]
    by (group u) d k mask l h = absurd (false≢true l)
    by (group u) d k other l h =
        let two = and_true (is_in_class shape object requester) _ l in
        record {
          entry = other;
          looks = rw (
            class (group u) two.0,
            none_less object.group shape.groups (shape_without u shape.groups)
                requester.groups (λ id m. (member_but id u shape.groups m).0) (not-true _ two.1),
          ) refl;
          has = k other refl refl want few (inl h);
        }
