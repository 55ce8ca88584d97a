-- An ACL that agrees with a list on read, write and execute alone, and the ACL of a pruning, grant the same sets of
-- permissions.
use Rattle.std.proofs.Common.{◌≡◌, ◌≤◌, ℕ, true, false, List, Option, None, Some, refl, sym, ap, subst, ◌∙◌, arith, inl, inr, length}
use Rattle.std.proofs.lemmas.Bool.{cases_Bool, eq-eqb, false≢true, true≢false}
use Rattle.std.specs.Prelude.{is_some, unwrap_or}
use Rattle.std.specs.FinMap as fin
use Rattle.std.specs.List.{list_any}
use Rattle.acl_perm.proofs.Bools.{and_true}
use Rattle.acl_perm.proofs.Sets.{subset_test}
use Rattle.acl_perm.specs.Bits.{IsPerm, has_bit}
use Rattle.acl_posix.specs.Check.{Object, Requester, contains, entry_contains, grants, is_contained, is_member}
use Rattle.acl_posix.specs.Entries.{Entries}
use Rattle.acl_posix.specs.Excess.{GrantsNothingMore}
use Rattle.acl_posix.specs.Tag.{Tag, user_obj, user, group_obj, group, mask, other, IsTag, is_masked}
use Rattle.acl_posix.specs.Texts.{IsAcl}
use Rattle.acl_nfs4.specs.Ace.{Ace}
use Rattle.acl_nfs4.specs.Limits.{most_aces}
use Rattle.acl_eval.specs.Bridge.{image}
use Rattle.acl_eval.specs.BridgeLaws.{IsSingle}
use Rattle.acl_to_posix.specs.Pruning.{PrunesTo, is_shared}
use Rattle.acl_to_posix.specs.PruningLaws.{HasFewIds, IsAmong, IsExactFor}
use Rattle.acl_to_posix.specs.ToPosix.{EntryShape, HasShape, IsBest, is_in_shape}
use Rattle.acl_to_posix.specs.internal.ShapeBody.{tag_meets}
use Rattle.acl_to_posix.proofs.SituationIds.{HasIds, entry_id}
use Rattle.acl_eval.proofs.Images.{small_bit}
use Rattle.acl_to_posix.proofs.prunings.Losses.{IsPart}
use Rattle.acl_to_posix.proofs.Matchings.{IsMatching, IsRest, Looks, Matching, alone, alone_looks, alone_matching, alone_only, looks_rest, looks_there, none_passes, nobody, with_user, with_user_matching, nobody_matching}
use Rattle.acl_to_posix.proofs.prunings.PruningEnds.{group_differs}
use Rattle.acl_to_posix.proofs.prunings.PruningGroups.{with_all_groups, with_fewer_groups}
use Rattle.acl_to_posix.proofs.prunings.PruningKept.{looks_from, looks_of}
use Rattle.acl_to_posix.proofs.prunings.PruningMaximal.{last_within}
use Rattle.acl_to_posix.proofs.prunings.PruningSingles.{execute_within, read_within, single_right, write_within}
use Rattle.acl_to_posix.proofs.prunings.PruningSituations.{IsSmall, all_ids, agree_gives, asked_matching, gives_of, ids_of_first, ids_of_list, is_granted, is_small, real_for, small_at_end, listed, most_listed}
use Rattle.acl_to_posix.proofs.shapes.AclShapes.{among_part, among_shape, among_small, only_asked, shape_among, sound_entry, with_ids_only}
use Rattle.acl_to_posix.proofs.prunings.PruningSteps.{Gives, HasAlways, alone_gives, has_part}
use Rattle.acl_to_posix.proofs.RealMatchings.{agree_back, agree_granted, agree_looks}
use Rattle.acl_to_posix.proofs.shapes.ShapeChecks.{all_contain, best_sound, granted, held, holding, holds, looked, some_member}
use Rattle.acl_eval.proofs.Singles.{single_execute, single_read, single_write}
use Rattle.acl_to_posix.proofs.columns.TagMatchings.{granted_to}
use Rattle.acl_eval.proofs.ValidChecks.{mask_contains, valid_is_complete}

-- ---- sets of permissions

-- what has each permission of a set has the set
always_set : (list : List Ace) (t : EntryShape) (e : Tag) (want : ℕ) → IsPerm want
    → ((one : ℕ) → IsSingle one → IsPerm one
    → ((b : ℕ) → has_bit (image one) b ≡ true → has_bit (image want) b ≡ true) → HasAlways (granted_to list) t e one)
    → HasAlways (granted_to list) t e want
always_set list t e want small each m ok l bit has =
    let r = single_right want bit small has in
    each r.one r.is r.small r.within m ok l bit r.has

-- what has a set has each part of it
always_one : (list : List Ace) (t : EntryShape) (e : Tag) (want one : ℕ)
    → ((b : ℕ) → has_bit (image one) b ≡ true → has_bit (image want) b ≡ true) → HasAlways (granted_to list) t e want
    → HasAlways (granted_to list) t e one
always_one list t e want one within has m ok l bit is = has m ok l bit (within bit is)

-- permissions contain a set if they contain each permission of it
contains_set : (p want : ℕ) → IsPerm want
    → ((one : ℕ) → IsSingle one → IsPerm one
    → ((b : ℕ) → has_bit (image one) b ≡ true → has_bit (image want) b ≡ true) → contains p one ≡ true)
    → contains p want ≡ true
contains_set p want small each = (subset_test p want).1 (λ k hk. elim (small_bit want k small hk) [
  | inl at ↦ place k 0 at ((subset_test p 1).0 (each 1 (single_execute 1 refl) (omega arith)
      (execute_within want small (place_of want k 0 at hk))) 0 refl)
  | inr more ↦ elim more [
    | inl at ↦ place k 1 at ((subset_test p 2).0 (each 2 (single_write 2 refl) (omega arith)
        (write_within want small (place_of want k 1 at hk))) 1 refl)
    | inr at ↦ place k 2 at ((subset_test p 4).0 (each 4 (single_read 4 refl) (omega arith)
        (read_within want small (place_of want k 2 at hk))) 2 refl)
  ]
])
  where
    place : (k j : ℕ) → k ≡ j → has_bit p j ≡ true → has_bit p k ≡ true
    place k j same h = subst (λ (n : ℕ). has_bit p n ≡ true) (sym same) h

    place_of : (w k j : ℕ) → k ≡ j → has_bit w k ≡ true → has_bit w j ≡ true
    place_of w k j same h = subst (λ (n : ℕ). has_bit w n ≡ true) same h

-- so do those of an entry that is there
contained_set : (o : Option ℕ) (want : ℕ) → IsPerm want → is_some o ≡ true
    → ((one : ℕ) → IsSingle one → IsPerm one
    → ((b : ℕ) → has_bit (image one) b ≡ true → has_bit (image want) b ≡ true) → is_contained o one ≡ true)
    → is_contained o want ≡ true
contained_set None want small some each = absurd (false≢true some)
contained_set (Some p) want small some each = contains_set p want small each

-- an entry that holds each permission of a set holds the set
holds_set : (E : Entries) (e : Tag) (want : ℕ) → IsPerm want → is_some (fin.get E e) ≡ true → (e ≡ mask → ⊥)
    → ((one : ℕ) → IsSingle one → IsPerm one
    → ((b : ℕ) → has_bit (image one) b ≡ true → has_bit (image want) b ≡ true) → holds E e one ≡ true)
    → holds E e want ≡ true
holds_set E e want small there plain each = holding E e want plain
    (contained_set (fin.get E e) want small there (λ one is few within. held E e one (each one is few within)))
    (λ masked. contains_set (unwrap_or (fin.get E mask) 7) want small
    (λ one is few within. masked_too e masked one (each one is few within)))
  where
    masked_too : (t : Tag) → is_masked t ≡ true → (one : ℕ) → holds E t one ≡ true → mask_contains E one ≡ true
    masked_too user_obj h one has = absurd (false≢true h)
    masked_too (user id) h one has = (and_true (entry_contains E (user id) one) (mask_contains E one) has).1
    masked_too group_obj h one has = (and_true (entry_contains E group_obj one) (mask_contains E one) has).1
    masked_too (group id) h one has = (and_true (entry_contains E (group id) one) (mask_contains E one) has).1
    masked_too mask h one has = absurd (false≢true h)
    masked_too other h one has = absurd (false≢true h)

-- ---- an ACL that agrees

-- a list, a shape, and an ACL of the shape that agrees with the list
record Agrees (list : List Ace) (t : EntryShape) (acl : Entries) : Type 0 where
  short : length list ≤ most_listed
  small : IsSmall t
  valid : IsAcl acl
  shaped : HasShape t acl
  exact : IsExactFor list acl

-- its shape gives all single permissions that the list grants
exact_at : (list : List Ace) (t : EntryShape) (acl : Entries) (m : Matching) (one : ℕ) → Agrees list t acl
    → IsMatching m → IsSingle one → IsPerm one → granted_to list one m → Gives (granted_to list) t m one
exact_at list t acl m one a ok single few granted =
    let r = real_for list t t m a.short a.small a.small ok in
    let back = agree_back (all_ids list t t) (tag_meets r.object r.requester) m r.agree in
    let allowed = (a.exact r.object r.requester one r.asked single).1
    (is_granted list r.object r.requester one r.asked
    (agree_granted (all_ids list t t) m (tag_meets r.object r.requester) list one back
    (ids_of_list list t t) granted)) in
    agree_gives list (all_ids list t t) (tag_meets r.object r.requester) m t one r.agree (ids_of_first list t t)
    (gives_of list t r.object r.requester one a.short a.small
    (sound_entry list t acl r.object r.requester one a.valid a.shaped few
    (λ o q asked yes. (a.exact o q one asked single).0 yes) allowed))

-- a matching for which the check looks at one entry alone
record LooksOnly (t : EntryShape) (e : Tag) : Type 0 where
  matching : Matching
  ok : IsMatching matching
  looks : Looks t matching e
  only : (x : Tag) → Looks t matching x → x ≡ e

-- the owner, who is in no group
abbrev owner_alone : Matching
owner_alone user_obj = true
owner_alone (user id) = false
owner_alone group_obj = false
owner_alone (group id) = false
owner_alone mask = false
owner_alone other = true

-- it is a matching
owner_alone_matching : IsMatching owner_alone
owner_alone_matching = record { everyone = refl; one = λ u v h g. absurd (false≢true h); ids = by }
  where
    by : (t : Tag) → owner_alone t ≡ true → IsTag t
    by user_obj h = tt
    by (user id) h = absurd (false≢true h)
    by group_obj h = tt
    by (group id) h = absurd (false≢true h)
    by mask h = tt
    by other h = tt

-- the check looks at USER_OBJ alone
owner_only : (t : EntryShape) (x : Tag) → Looks t owner_alone x → x ≡ user_obj
owner_only t user_obj l = refl
owner_only t (user id) l = absurd (true≢false l.0)
owner_only t group_obj l = absurd (true≢false l.0.owner)
owner_only t (group id) l = absurd (true≢false l.0.owner)
owner_only t mask l = absurd l
owner_only t other l = absurd (true≢false l.0.owner)

-- a user who has an entry, and is not the owner
user_only : (t : EntryShape) (m : Matching) (v : ℕ) → IsMatching m → m user_obj ≡ false → m (user v) ≡ true
    → is_member v t.users ≡ true → (x : Tag) → Looks t m x → x ≡ user v
user_only t m v ok outside is there user_obj l = absurd (true≢false (sym l ∙ outside))
user_only t m v ok outside is there (user id) l = ap user (ok.one id v l.2 is)
user_only t m v ok outside is there group_obj l = absurd (true≢false (sym is ∙ l.0.others v there))
user_only t m v ok outside is there (group id) l = absurd (true≢false (sym is ∙ l.0.others v there))
user_only t m v ok outside is there mask l = absurd l
user_only t m v ok outside is there other l = absurd (true≢false (sym is ∙ l.0.others v there))

-- for each shared entry of a shape there is such a matching
shared_only : (t : EntryShape) (e : Tag) → HasIds t → is_shared e ≡ true → is_in_shape t e ≡ true → LooksOnly t e
shared_only t e ids shared there = record {
  matching = alone e;
  ok = alone_matching e (entry_id t e ids there);
  looks = alone_looks t e shared there;
  only = λ x l. alone_only t e x shared there l;
}

-- for each entry of a shape there is such a matching
looks_only : (t : EntryShape) (e : Tag) → HasIds t → is_in_shape t e ≡ true → LooksOnly t e
looks_only t user_obj ids there =
    record { matching = owner_alone; ok = owner_alone_matching; looks = refl; only = owner_only t }
looks_only t (user u) ids there =
    let ok = with_user_matching u nobody (ids.users u there) nobody_matching in record {
      matching = with_user u nobody;
      ok = ok;
      looks = (refl, there, eq-eqb u u refl);
      only = user_only t (with_user u nobody) u ok refl (eq-eqb u u refl) there;
    }
looks_only t group_obj ids there = shared_only t group_obj ids refl there
looks_only t (group g) ids there = shared_only t (group g) ids refl there
looks_only t mask ids there = absurd (false≢true there)
looks_only t other ids there = shared_only t other ids refl there

-- each of its entries holds the single permissions that the entry of its shape has
exact_entry : (list : List Ace) (t : EntryShape) (acl : Entries) (e : Tag) (one : ℕ) → Agrees list t acl
    → is_in_shape t e ≡ true → IsSingle one → IsPerm one → HasAlways (granted_to list) t e one
    → holds acl e one ≡ true
exact_entry list t acl e one a there single few has =
    let l = looks_only t e (record { users = a.small.users; groups = a.small.groups }) there in
    let r = real_for list t t l.matching a.short a.small a.small l.ok in
    let back = agree_back (all_ids list t t) (tag_meets r.object r.requester) l.matching r.agree in
    let allowed = (a.exact r.object r.requester one r.asked single).1
    (is_granted list r.object r.requester one r.asked (agree_granted (all_ids list t t) l.matching
    (tag_meets r.object r.requester) list one back (ids_of_list list t t) (has l.matching l.ok l.looks))) in
    let at = looked t acl r.object r.requester one a.valid.valid a.shaped (all_contain one few) allowed in
    subst (λ (x : Tag). holds acl x one ≡ true) (l.only at.entry
    (agree_looks (all_ids list t t) (tag_meets r.object r.requester) l.matching t at.entry r.agree
    (ids_of_first list t t) (looks_of t r.object r.requester at.entry at.looks))) at.holds

-- an entry of the shape is there
pub entry_there : (t : EntryShape) (acl : Entries) (e : Tag) → IsAcl acl → HasShape t acl → is_in_shape t e ≡ true
    → is_some (fin.get acl e) ≡ true
entry_there t acl user_obj valid shaped h = (valid_is_complete acl valid.valid).owner
entry_there t acl (user id) valid shaped h = shaped.users id ∙ h
entry_there t acl group_obj valid shaped h = (valid_is_complete acl valid.valid).group
entry_there t acl (group id) valid shaped h = shaped.groups id ∙ h
entry_there t acl mask valid shaped h = absurd (false≢true h)
entry_there t acl other valid shaped h = (valid_is_complete acl valid.valid).others

-- so what its shape gives, it grants
exact_grants : (list : List Ace) (t : EntryShape) (acl : Entries) (object : Object) (requester : Requester) (want : ℕ)
    → Agrees list t acl → IsPerm want → Gives (granted_to list) t (tag_meets object requester) want
    → grants acl object requester want ≡ true
exact_grants list t acl object requester want a small g =
    let there = looks_there t (tag_meets object requester) g.entry g.looks in
    granted t acl object requester want g.entry a.valid.valid a.shaped (all_contain want small)
    (looks_from t object requester g.entry g.looks)
    (holds_set acl g.entry want small (entry_there t acl g.entry a.valid a.shaped there)
    (λ e. false≢true (sym (ap (is_in_shape t) e) ∙ there))
    (λ one is few within. exact_entry list t acl g.entry one a there is few
    (always_one list t g.entry want one within g.has)))

-- ---- a shape with fewer names

-- a user with an entry in the second shape is given there all that the list grants
user_given : (list : List Ace) (t : EntryShape) (acl : Entries) (m : Matching) (v want : ℕ) → Agrees list t acl
    → IsMatching m → IsPerm want → m user_obj ≡ false → is_member v t.users ≡ true → m (user v) ≡ true
    → granted_to list want m → Gives (granted_to list) t m want
user_given list t acl m v want a ok small outside there is granted = record {
  entry = user v;
  looks = (outside, there, is);
  has = always_set list t (user v) want small (λ one single few within.
      let g = exact_at list t acl m one a ok single few (λ bit b. granted bit (within bit b)) in
      subst (λ (x : Tag). HasAlways (granted_to list) t x one)
      (user_only t m v ok outside is there g.entry g.looks) g.has);
}

-- so are strangers in a group with an entry, whom OTHER of the first shape grants it
group_given : (list : List Ace) (s t : EntryShape) (acl : Entries) (m : Matching) (g want : ℕ) → Agrees list t acl
    → IsPerm want → IsRest t.users m → m (group g) ≡ true → is_member g t.groups ≡ true → is_member g s.groups ≡ false
    → HasAlways (granted_to list) s other want → Gives (granted_to list) t m want
group_given list s t acl m g want a small rest is there lacks has = record {
  entry = group g;
  looks = (rest, there, is);
  has = always_set list t (group g) want small (λ one single few within.
      alone_gives (granted_to list) t (group g) one refl there
      (exact_at list t acl (alone (group g)) one a (alone_matching (group g) (a.small.groups g there)) single few
      (always_one list s other want one within has (alone (group g))
      (alone_matching (group g) (a.small.groups g there)) (
        record { owner = refl; others = λ id h. refl },
        refl,
        λ id h. group_differs g s lacks (group id) h,
      ))));
}

-- what a shared entry of a part gives to the rest of the whole, the whole gives
rest_given : (list : List Ace) (s t : EntryShape) (acl : Entries) (m : Matching) (e : Tag) (want : ℕ)
    → Agrees list t acl → IsPart t s → IsPerm want → is_shared e ≡ true → IsRest t.users m → Looks s m e
    → HasAlways (granted_to list) s e want → Gives (granted_to list) t m want
rest_given list s t acl m user_obj want a p small shared rest l has = absurd (false≢true shared)
rest_given list s t acl m (user u) want a p small shared rest l has = absurd (false≢true shared)
rest_given list s t acl m group_obj want a p small shared rest l has =
    record { entry = group_obj; looks = (rest, l.1); has = has_part (granted_to list) t s group_obj want p refl has }
rest_given list s t acl m (group g) want a p small shared rest l has = record {
  entry = group g;
  looks = (rest, p.groups g l.1, l.2);
  has = has_part (granted_to list) t s (group g) want p l.1 has;
}
rest_given list s t acl m mask want a p small shared rest l has = absurd l
rest_given list s t acl m other want a p small shared rest l has =
    elim (cases_Bool (list_any (λ id. m (group id)) t.groups)) [
      | inl some ↦
          let (n, there, is) = some_member (λ id. m (group id)) t.groups some in
          group_given list s t acl m n want a small rest is there (lacks n is) has
      | inr lacking ↦ record {
        entry = other;
        looks = (rest, l.1, none_passes (λ id. m (group id)) t.groups lacking);
        has = has_part (granted_to list) t s other want p refl has;
      }
    ]
  where
    lacks : (n : ℕ) → m (group n) ≡ true → is_member n s.groups ≡ false
    lacks n is = elim (cases_Bool (is_member n s.groups)) [
      | inl has_n ↦ absurd (true≢false (sym is ∙ l.2 n has_n))
      | inr not_there ↦ not_there
    ]

-- what a shared entry of a part gives, the whole gives
shared_given : (list : List Ace) (s t : EntryShape) (acl : Entries) (m : Matching) (e : Tag) (want : ℕ)
    → Agrees list t acl
    → IsPart t s → IsMatching m → IsPerm want → is_shared e ≡ true → Looks s m e → HasAlways (granted_to list) s e want
    → Gives (granted_to list) t m want
shared_given list s t acl m e want a p ok small shared l has =
    let rest = looks_rest s m e shared l in
    elim (cases_Bool (list_any (λ id. m (user id)) t.users)) [
      | inl some ↦
          let (n, there, is) = some_member (λ id. m (user id)) t.users some in
          user_given list t acl m n want a ok small rest.owner there is (has m ok l)
      | inr lacking ↦ rest_given list s t acl m e want a p small shared
          (record { owner = rest.owner; others = none_passes (λ id. m (user id)) t.users lacking }) l has
    ]

-- what a part gives, the whole gives
part_given : (list : List Ace) (s t : EntryShape) (acl : Entries) (m : Matching) (want : ℕ) → Agrees list t acl
    → IsPart t s → IsMatching m → IsPerm want → Gives (granted_to list) s m want → Gives (granted_to list) t m want
part_given list s t acl m want a p ok small g = by g.entry g.looks g.has
  where
    by : (e : Tag) → Looks s m e → HasAlways (granted_to list) s e want → Gives (granted_to list) t m want
    by user_obj l has = record { entry = user_obj; looks = l; has = has }
    by (user u) l has = record {
      entry = user u;
      looks = (l.0, p.users u l.1, l.2);
      has = λ n fine ln. has n fine (ln.0, l.1, ln.2);
    }
    by group_obj l has = shared_given list s t acl m group_obj want a p ok small refl l has
    by (group g) l has = shared_given list s t acl m (group g) want a p ok small refl l has
    by mask l has = absurd l
    by other l has = shared_given list s t acl m other want a p ok small refl l has

-- ---- the end of a pruning

-- the ACL of the last shape grants nothing more than an ACL that agrees with the list, and has names of the start
pub no_more_sets : (list : List Ace) (one two : EntryShape) (best acl : Entries) → length list ≤ most_aces
    → HasFewIds one → PrunesTo list one two → IsBest list two best → IsAcl acl → IsAmong one acl
    → IsExactFor list acl → GrantsNothingMore best acl
no_more_sets list one two best acl short f p is valid among exact want small object requester parties allowed =
    let s = is_small one f in
    let t = shape_among one acl in
    let a : Agrees list t acl = record {
      short = listed list short;
      small = among_small one acl s;
      valid = valid;
      shaped = among_shape one acl among;
      exact = exact;
    } in
    let e = small_at_end list one two p.steps s in
    let within = last_within list one two t (listed list short) f p (among_part one acl) (λ m w ok few single given.
    exact_at list t acl m w a ok single few (given.has m ok given.looks)) in
    let asked = only_asked object requester parties in
    let fewer = with_fewer_groups best two object requester want is.valid is.shaped e parties small allowed in
    let given = gives_of list two object (with_ids_only requester) want (listed list short) e
    (sound_entry list two best object (with_ids_only requester) want is.valid is.shaped small
    (λ o r fine yes. best_sound list two best is o r fine want small yes) fewer) in
    with_all_groups acl t object requester want valid a.shaped a.small parties small
    (exact_grants list t acl object (with_ids_only requester) want a small
    (part_given list two t acl (tag_meets object (with_ids_only requester)) want a within
    (asked_matching object (with_ids_only requester) asked) small given))
