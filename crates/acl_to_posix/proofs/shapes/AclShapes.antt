-- The users and groups of an ACL, and an ACL that grants no more than a list in place of a shape.
use Rattle.std.proofs.Common.{◌≡◌, ◌≤◌, ℕ, suc, Bool, true, false, ltb, List, [], ◌∷◌, ◌++◌, refl, sym, ap, ◌∙◌, arith, inl, inr, length}
use Rattle.std.proofs.lemmas.Bool.{cases_Bool, false≢true}
use Rattle.std.proofs.lemmas.Bool.Decides.{nat_tests}
use Rattle.std.proofs.lemmas.List.Elements.{All-from_recursion}
use Rattle.std.proofs.lemmas.List.Folds.{list_any-append}
use Rattle.std.specs.Prelude.{◌==◌, ◌&&◌, ◌||◌, filter, if◌then◌else◌}
use Rattle.std.specs.FinMap as fin
use Rattle.std.specs.List.{AllByRecursion}
use Rattle.acl_perm.proofs.Bools.{and_true, and_true_right}
use Rattle.acl_perm.specs.Bits.{IsPerm}
use Rattle.acl_posix.specs.Check.{Object, Requester, grants, is_member}
use Rattle.acl_posix.specs.Entries.{Entries}
use Rattle.acl_posix.specs.Excess.{AreParties, GrantsNothingMore}
use Rattle.acl_posix.specs.Id.{IsId, greatest_id}
use Rattle.acl_posix.specs.Tag.{user, group}
use Rattle.acl_posix.specs.Texts.{IsAcl}
use Rattle.acl_nfs4.specs.Ace.{Ace}
use Rattle.acl_eval.specs.Bridge.{image}
use Rattle.acl_eval.specs.BridgeLaws.{IsAsked, by_name}
use Rattle.acl_eval.specs.Grant.{Grant}
use Rattle.acl_to_posix.specs.Pruning.{ShapeGrants}
use Rattle.acl_to_posix.specs.PruningLaws.{IsAmong}
use Rattle.acl_to_posix.specs.ToPosix.{EntryShape, HasShape, IsBest, IsSound}
use Rattle.acl_to_posix.specs.internal.ShapeBody.{tag_meets}
use Rattle.acl_to_posix.proofs.prunings.Losses.{IsPart, no_longer}
use Rattle.acl_to_posix.proofs.Matchings.{Matching, looks_there}
use Rattle.acl_to_posix.proofs.prunings.PruningKept.{looks_of}
use Rattle.acl_to_posix.proofs.prunings.PruningSteps.{Below}
use Rattle.acl_to_posix.proofs.RealMatchings.{Agree, IsWithinIds, agree_back, filter_member}
use Rattle.acl_to_posix.proofs.shapes.ShapeChecks.{all_contain, best_holds, granted, looked}
use Rattle.acl_to_posix.proofs.columns.TagMatchings.{granted_to}
use Rattle.acl_to_posix.proofs.no_greatest.FreeIds.{is_member-append_left, is_member-append_right}
use Rattle.acl_to_posix.proofs.prunings.PruningSituations.{IsSmall, agree_gives, asked_matching, gives_from, gives_of, most_listed}

-- ---- the users and groups of an ACL

-- the users and groups of the shape with entries
abbrev pub shape_among : EntryShape → Entries → EntryShape
shape_among shape entries = record {
  users = filter (λ id. fin.contains_key entries (user id)) shape.users;
  groups = filter (λ id. fin.contains_key entries (group id)) shape.groups;
}

-- the users and groups of a shape that have entries are a part of the shape
pub among_part : (shape : EntryShape) (entries : Entries) → IsPart shape (shape_among shape entries)
among_part shape entries = record {
  users = λ id h. (and_true (is_member id shape.users) (fin.contains_key entries (user id))
      (sym (filter_member (λ n. fin.contains_key entries (user n)) shape.users id) ∙ h)).0;
  groups = λ id h. (and_true (is_member id shape.groups) (fin.contains_key entries (group id))
      (sym (filter_member (λ n. fin.contains_key entries (group n)) shape.groups id) ∙ h)).0;
}

-- this part is small if the shape is
pub among_small : (shape : EntryShape) (entries : Entries) → IsSmall shape → IsSmall (shape_among shape entries)
among_small shape entries f =
    let p = among_part shape entries in
    let u = no_longer (λ id. fin.contains_key entries (user id)) shape.users in
    let g = no_longer (λ id. fin.contains_key entries (group id)) shape.groups in
    record {
      users = λ id h. f.users id (p.users id h);
      groups = λ id h. f.groups id (p.groups id h);
      few = omega (arith, f.few, u, g);
    }

-- both tests hold where the second implies the first
second_decides : (a b : Bool) → (b ≡ true → a ≡ true) → b ≡ (a && b)
second_decides true b h = refl
second_decides false true h = absurd (false≢true (h refl))
second_decides false false h = refl

-- an ACL whose users and groups are among those of a shape has this part of it as its shape
pub among_shape : (shape : EntryShape) (entries : Entries) → IsAmong shape entries
    → HasShape (shape_among shape entries) entries
among_shape shape entries a = record {
  users = λ id. second_decides (is_member id shape.users) (fin.contains_key entries (user id)) (a.users id)
      ∙ sym (filter_member (λ n. fin.contains_key entries (user n)) shape.users id);
  groups = λ id. second_decides (is_member id shape.groups) (fin.contains_key entries (group id)) (a.groups id)
      ∙ sym (filter_member (λ n. fin.contains_key entries (group n)) shape.groups id);
}

-- ---- ACLs in place of shapes

-- what an ACL grants, its shape gives, if the ACL grants no more than the list
pub sound_entry : (list : List Ace) (t : EntryShape) (acl : Entries) (object : Object) (requester : Requester)
    (want : ℕ) → IsAcl acl → HasShape t acl → IsPerm want
    → ((o : Object) (r : Requester) → IsAsked o r → grants acl o r want ≡ true → Grant list (by_name o r) (image want))
    → grants acl object requester want ≡ true → ShapeGrants list t object requester want
sound_entry list t acl object requester want valid shaped small sound allowed =
    let at = looked t acl object requester want valid.valid shaped (all_contain want small) allowed in record {
      entry = at.entry;
      looks = at.looks;
      has = λ o r asked l. sound o r asked
          (granted t acl o r want at.entry valid.valid shaped (all_contain want small) l at.holds);
    }

-- what the shape gives, its ACL grants, also to requesters whose groups are not ids
pub best_grants : (list : List Ace) (s : EntryShape) (best : Entries) (object : Object) (requester : Requester)
    (want : ℕ) → IsBest list s best → IsPerm want → ShapeGrants list s object requester want
    → grants best object requester want ≡ true
best_grants list s best object requester want is small g =
    let there = looks_there s (tag_meets object requester) g.entry (looks_of s object requester g.entry g.looks) in
    granted s best object requester want g.entry is.valid.valid is.shaped (all_contain want small) g.looks
    (best_holds list s best g.entry want is there (all_contain want small) ((is.each g.entry there want small).1 g.has))

-- the requester without groups that are not ids
abbrev pub with_ids_only : Requester → Requester
with_ids_only requester =
    record { user = requester.user; groups = filter (λ g. ltb g (suc greatest_id)) requester.groups }

-- an id passes the test
id_test : (n : ℕ) → IsId n → ltb n (suc greatest_id) ≡ true
id_test n is = grind (arith, nat_tests)

-- what passes the test is an id
IsId-test : (n : ℕ) → ltb n (suc greatest_id) ≡ true → IsId n
IsId-test n h = grind (arith, nat_tests)

-- the groups that are left are ids
only_ids : (groups : List ℕ) → AllByRecursion IsId (filter (λ g. ltb g (suc greatest_id)) groups)
only_ids [] = tt
only_ids (g ∷ groups) = by (only_ids groups) (ltb g (suc greatest_id)) refl
  where
    by : AllByRecursion IsId (filter (λ g. ltb g (suc greatest_id)) groups) → (b : Bool) → ltb g (suc greatest_id) ≡ b
        → AllByRecursion IsId (if b then g ∷ filter (λ g. ltb g (suc greatest_id)) groups
        else filter (λ g. ltb g (suc greatest_id)) groups)
    by rest true e = (IsId-test g e, rest)
    by rest false e = rest

-- a requester without groups that are not ids asks by ids
pub only_asked : (object : Object) (requester : Requester) → AreParties object requester
    → IsAsked object (with_ids_only requester)
only_asked object requester p = record {
  owner = p.owner;
  owning_group = p.group;
  asker = p.user;
  groups = All-from_recursion IsId _ (only_ids requester.groups);
}

-- an id is a group of the one if it is a group of the other
same_group : (groups : List ℕ) (id : ℕ) → IsId id
    → is_member id (filter (λ g. ltb g (suc greatest_id)) groups) ≡ is_member id groups
same_group groups id is = filter_member (λ g. ltb g (suc greatest_id)) groups id
    ∙ rw (id_test id is) (and_true_right (is_member id groups))

-- the tags with ids match this requester as they match the one with all groups
only_agree : (object : Object) (requester : Requester) (ns : List ℕ) → AreParties object requester
    → ((id : ℕ) → is_member id ns ≡ true → IsId id)
    → Agree ns (tag_meets object (with_ids_only requester)) (tag_meets object requester)
only_agree object requester ns p ids = record {
  owner = refl;
  users = λ id h. refl;
  owning = same_group requester.groups object.group p.group;
  groups = λ id h. same_group requester.groups id (ids id h);
  everyone = refl;
}

-- the users and groups of one shape
pub shape_within : (s : EntryShape) → IsWithinIds (s.users ++ s.groups) s
shape_within s = record {
  users = λ id h. is_member-append_left id s.users s.groups h;
  groups = λ id h. is_member-append_right id s.users s.groups h;
}

-- a member of two lists is an id if each member of one of them is
pub member_of_two : (id : ℕ) (xs ys : List ℕ) → (is_member id xs ≡ true → IsId id) → (is_member id ys ≡ true → IsId id)
    → is_member id (xs ++ ys) ≡ true → IsId id
member_of_two id xs ys first second h = elim (cases_Bool (is_member id xs)) [
  | inl has ↦ first has
  | inr lacks ↦ second (sym (ap (λ (b : Bool). b || is_member id ys) lacks)
      ∙ sym (list_any-append (λ (x : ℕ). x == id) xs ys) ∙ h)
]

-- without groups that are not ids, the same tags of a small shape match
pub small_agree : (s : EntryShape) (object : Object) (requester : Requester) → IsSmall s → AreParties object requester
    → Agree (s.users ++ s.groups) (tag_meets object (with_ids_only requester)) (tag_meets object requester)
small_agree s object requester f p = only_agree object requester (s.users ++ s.groups) p
    (λ id h. member_of_two id s.users s.groups (f.users id) (f.groups id) h)

-- if a shape gives no more than another, a sound ACL of the first shape grants nothing more than the ACL of the other
pub grants_no_more : (list : List Ace) (s t : EntryShape) (best acl : Entries) → length list ≤ most_listed → IsSmall s
    → IsSmall t → IsBest list s best → IsAcl acl → HasShape t acl → IsSound list acl → Below (granted_to list) t s
    → GrantsNothingMore acl best
grants_no_more list s t best acl short f g is valid shaped sound below want small object requester p allowed =
    let n : Matching = tag_meets object (with_ids_only requester) in
    let m : Matching = tag_meets object requester in
    let asked = only_asked object requester p in
    let given = sound_entry list t acl object requester want valid shaped small
    (λ o r a yes. sound o r a want small yes) allowed in
    let a = small_agree t object requester g p in
    let here =
    agree_gives list (t.users ++ t.groups) m n t want (agree_back (t.users ++ t.groups) n m a) (shape_within t)
    (gives_of list t object requester want short g given) in
    let there = below n want (asked_matching object (with_ids_only requester) asked) small here in
    best_grants list s best object requester want is small (gives_from list s object requester want
    (agree_gives list (s.users ++ s.groups) n m s want (small_agree s object requester f p) (shape_within s) there))
