-- If nothing is lost without a user or a group, the other entries keep what they had, and have what its entry had.
use Rattle.std.proofs.Common.{◌≡◌, ℕ, Bool, true, false, List, [], ◌∷◌, ◌++◌, Option, None, Some, refl, sym, ap, subst, ◌∙◌, arith, inl, inr}
use Rattle.std.proofs.lemmas.Bool.{cases_Bool, eq-eqb, eqb-true, false≢true, not-true, true≢false}
use Rattle.std.proofs.lemmas.List.Folds.{list_any-append}
use Rattle.std.proofs.lemmas.Option.{same_Some}
use Rattle.std.specs.Prelude.{◌↔◌, ◌==◌, ◌||◌, not}
use Rattle.std.specs.Ordering.{eq_by_cmp}
use Rattle.acl_perm.proofs.Bools.{and_true, or_false_right, or_true_right}
use Rattle.acl_perm.specs.declared.kind.Kind.TheVariants.{Allow}
use Rattle.acl_posix.specs.Check.{Object, Requester, is_member}
use Rattle.acl_posix.specs.Tag.{Tag, user_obj, user, group_obj, group, mask, other, IsTag, is_named, tag_cmp}
use Rattle.acl_posix.proofs.Exports.{same_tag}
use Rattle.acl_nfs4.specs.Ace.{Ace}
use Rattle.acl_to_posix.specs.Pruning.{IsNameOf, KeepsEntries, LosesNothing, ShapeGrants, is_shared, taken_out}
use Rattle.acl_to_posix.specs.ToPosix.{AlwaysHas, EntryShape, is_in_class, is_in_shape, looks_at}
use Rattle.acl_to_posix.specs.internal.ShapeBody.{TagColumn, may_match}
use Rattle.acl_to_posix.specs.internal.LossBody.{groups_for}
use Rattle.acl_to_posix.proofs.Passes.{IsExtra, is_extra, eq_by_cmp-refl}
use Rattle.acl_to_posix.proofs.no_greatest.FreeIds.{AreFree, free_ids}
use Rattle.acl_to_posix.proofs.TagRequesters.{asker, extra_groups, is_member-extra, is_member-groups_for, object_at, is_member-extra_own, is_member-groups_for_own, requester_at}
use Rattle.acl_to_posix.proofs.EntrySituations.{looks}
use Rattle.acl_to_posix.proofs.SituationIds.{HasIds, asked_by_tags, entry_id}
use Rattle.acl_to_posix.proofs.PossibleTags.{list_any-none}
use Rattle.acl_to_posix.proofs.shapes.ShapeChecks.{class_parts}
use Rattle.acl_to_posix.proofs.prunings.Losses.{but_lacks, free_part, nothing_lost, out_part, part_has}

-- a shared entry is looked at for requesters without an entry
shared_class : (shape : EntryShape) (object : Object) (requester : Requester) (e : Tag) → is_shared e ≡ true
    → looks_at shape object requester e ≡ true → is_in_class shape object requester ≡ true
shared_class shape object requester user_obj s l = absurd (false≢true s)
shared_class shape object requester (user id) s l = absurd (false≢true s)
shared_class shape object requester group_obj s l = (and_true (is_in_class shape object requester) _ l).0
shared_class shape object requester (group id) s l = (and_true (is_in_class shape object requester) _ l).0
shared_class shape object requester mask s l = absurd (false≢true s)
shared_class shape object requester other s l = (and_true (is_in_class shape object requester) _ l).0

-- the situation of a shared entry: the check looks at no other entry of the shape
only : (t : EntryShape) (e : Tag) (extra : Option Tag) (free next own : ℕ) → is_shared e ≡ true → is_in_shape t e ≡ true
    → ((h : ℕ) → is_member h t.groups ≡ true → (own == h) ≡ false)
    → ((h : ℕ) → extra ≡ Some (group h) → (own == h) ≡ false)
    → is_extra extra group_obj ≡ false → ((h : ℕ) → is_member h t.groups ≡ true → is_extra extra (group h) ≡ false)
    → is_in_class t (object_at e extra free next own) (requester_at e extra free own) ≡ true
    → (x : Tag) → looks_at t (object_at e extra free next own) (requester_at e extra free own) x ≡ true → x ≡ e
only t e extra free next own s there o1 o2 n1 n2 class user_obj l =
    absurd (true≢false (sym l
    ∙ (class_parts t (object_at e extra free next own) (requester_at e extra free own) class).0))
only t e extra free next own s there o1 o2 n1 n2 class (user v) l =
    let one = and_true (not (asker e extra free == (object_at e extra free next own).user)) _ l in
    let two = and_true (asker e extra free == v) (is_member v t.users) one.1 in
    absurd (true≢false (sym two.1 ∙ (ap (λ (n : ℕ). is_member n t.users) (sym (eqb-true (asker e extra free) v two.0))
    ∙ (class_parts t (object_at e extra free next own) (requester_at e extra free own) class).1)))
only t e extra free next own s there o1 o2 n1 n2 class group_obj l =
    let two = and_true (is_in_class t (object_at e extra free next own) (requester_at e extra free own)) _ l in
    same_tag group_obj e (sym (or_false_right (eq_by_cmp tag_cmp group_obj e))
    ∙ (ap (λ (b : Bool). eq_by_cmp tag_cmp group_obj e || b) (sym n1)
    ∙ (ap (λ (b : Bool). eq_by_cmp tag_cmp group_obj e || b) (sym (is_member-extra_own own extra o2))
    ∙ (ap (λ (b : Bool). b || is_member own (extra_groups own extra))
    (sym (is_member-groups_for_own own e (λ id q. o1 id (sym (ap (is_in_shape t) q) ∙ there))))
    ∙ (sym (list_any-append (λ (x : ℕ). x == own) (groups_for own e) (extra_groups own extra)) ∙ two.1)))))
only t e extra free next own s there o1 o2 n1 n2 class (group h) l =
    let two = and_true (is_in_class t (object_at e extra free next own) (requester_at e extra free own)) _ l in
    let one = and_true (is_member h (groups_for own e ++ extra_groups own extra)) (is_member h t.groups) two.1 in
    same_tag (group h) e (sym (or_false_right (eq_by_cmp tag_cmp (group h) e))
    ∙ (ap (λ (b : Bool). eq_by_cmp tag_cmp (group h) e || b) (sym (n2 h one.1))
    ∙ (ap (λ (b : Bool). eq_by_cmp tag_cmp (group h) e || b) (sym (is_member-extra own h extra (o1 h one.1)))
    ∙ (ap (λ (b : Bool). b || is_member h (extra_groups own extra)) (sym (is_member-groups_for own h e (o1 h one.1)))
    ∙ (sym (list_any-append (λ (x : ℕ). x == h) (groups_for own e) (extra_groups own extra)) ∙ one.0)))))
only t e extra free next own s there o1 o2 n1 n2 class mask l = absurd (false≢true l)
only t user_obj extra free next own s there o1 o2 n1 n2 class other l = absurd (false≢true s)
only t (user id) extra free next own s there o1 o2 n1 n2 class other l = absurd (false≢true s)
only t group_obj extra free next own s there o1 o2 n1 n2 class other l =
    let two = and_true (is_in_class t (object_at group_obj extra free next own) (requester_at group_obj extra free own))
    _ l in
    absurd (true≢false (sym (eq-eqb own own refl) ∙ (list_any-none own own t.groups (own ∷ extra_groups own extra)
    (not-true _ two.1) (ap (λ (b : Bool). b || is_member own (extra_groups own extra)) (eq-eqb own own refl))).0))
only t (group g) extra free next own s there o1 o2 n1 n2 class other l =
    let two = and_true (is_in_class t (object_at (group g) extra free next own) (requester_at (group g) extra free own))
    _ l in
    absurd (true≢false (sym there ∙ (list_any-none own g t.groups (g ∷ extra_groups own extra)
    (not-true _ two.1) (ap (λ (b : Bool). b || is_member g (extra_groups own extra)) (eq-eqb g g refl))).1))
only t mask extra free next own s there o1 o2 n1 n2 class other l = absurd (false≢true s)
only t other extra free next own s there o1 o2 n1 n2 class other l = refl

-- the name that was taken out may match wherever the check looks at a shared entry of the rest
may_be_out : (shape : EntryShape) (name e : Tag) → is_named name ≡ true → is_shared e ≡ true
    → may_match (taken_out name shape) e name ≡ true
may_be_out shape user_obj e n s = absurd (false≢true n)
may_be_out shape (user u) user_obj n s = refl
may_be_out shape (user u) (user v) n s = absurd (false≢true s)
may_be_out shape (user u) group_obj n s = ap (λ (b : Bool). not b) (but_lacks u shape.users)
may_be_out shape (user u) (group v) n s = ap (λ (b : Bool). not b) (but_lacks u shape.users)
may_be_out shape (user u) mask n s = absurd (false≢true s)
may_be_out shape (user u) other n s = ap (λ (b : Bool). not b) (but_lacks u shape.users)
may_be_out shape group_obj e n s = absurd (false≢true n)
may_be_out shape (group g) e n s =
    ap (λ (b : Bool). not (eq_by_cmp tag_cmp e other) || not b) (but_lacks g shape.groups)
    ∙ or_true_right (not (eq_by_cmp tag_cmp e other))
may_be_out shape mask e n s = absurd (false≢true n)
may_be_out shape other e n s = absurd (false≢true n)

-- a user or a group is not GROUP_OBJ
pub not_owning : (name : Tag) → is_named name ≡ true → eq_by_cmp tag_cmp group_obj name ≡ false
not_owning user_obj n = absurd (false≢true n)
not_owning (user u) n = refl
not_owning group_obj n = absurd (false≢true n)
not_owning (group g) n = refl
not_owning mask n = absurd (false≢true n)
not_owning other n = absurd (false≢true n)

-- a group of the rest is not the one that was taken out
not_rest : (shape : EntryShape) (name : Tag) (h : ℕ) → is_member h (taken_out name shape).groups ≡ true
    → eq_by_cmp tag_cmp (group h) name ≡ false
not_rest shape name h there = elim (cases_Bool (eq_by_cmp tag_cmp (group h) name)) [
  | inl same ↦ absurd (true≢false (sym (subst (λ (n : Tag). is_member h (taken_out n shape).groups ≡ true)
      (sym (same_tag (group h) name same)) there) ∙ but_lacks h shape.groups))
  | inr differ ↦ differ
]

-- a shared entry has no user of its own
no_user : (e : Tag) (free : ℕ) → is_shared e ≡ true → asker e None free ≡ free
no_user user_obj free s = refl
no_user (user v) free s = absurd (false≢true s)
no_user group_obj free s = refl
no_user (group v) free s = refl
no_user mask free s = refl
no_user other free s = refl

-- no requester of a shared entry is the owner
owned : (e : Tag) (extra : Option Tag) (free next own : ℕ) → is_shared e ≡ true
    → (object_at e extra free next own).user ≡ next
owned user_obj extra free next own s = absurd (false≢true s)
owned (user v) extra free next own s = absurd (false≢true s)
owned group_obj extra free next own s = refl
owned (group v) extra free next own s = refl
owned mask extra free next own s = absurd (false≢true s)
owned other extra free next own s = refl

-- before it was taken out, the check looked at its entry
looked_out : (shape : EntryShape) (name e : Tag) (free next own : ℕ) (keys : TagColumn)
    → AreFree shape keys free next own → is_named name ≡ true → is_in_shape shape name ≡ true → is_shared e ≡ true
    → looks_at shape (object_at e (Some name) free next own) (requester_at e (Some name) free own) name ≡ true
looked_out shape user_obj e free next own keys f n there s = absurd (false≢true n)
looked_out shape (user u) e free next own keys f n there s =
    rw (owned e (Some (user u)) free next own s, f.next_user u there, eq-eqb u u refl, there) refl
looked_out shape group_obj e free next own keys f n there s = absurd (false≢true n)
looked_out shape (group g) e free next own keys f n there s =
    let asks : asker e (Some (group g)) free ≡ free = no_user e free s in
    let member : is_member g (groups_for own e ++ g ∷ []) ≡ true =
    list_any-append (λ (x : ℕ). x == g) (groups_for own e) (g ∷ [])
    ∙ ap (λ (b : Bool). is_member g (groups_for own e) || (b || false)) (eq-eqb g g refl)
    ∙ or_true_right (is_member g (groups_for own e)) in
    rw (owned e (Some (group g)) free next own s, asks, f.differ, f.free_user, member, there) refl
looked_out shape mask e free next own keys f n there s = absurd (false≢true n)
looked_out shape other e free next own keys f n there s = absurd (false≢true n)

-- what the ACL of the rest grants in the situation of a shared entry, this entry has
had : (list : List Ace) (t : EntryShape) (e : Tag) (object : Object) (requester : Requester) (want : ℕ)
    → ((x : Tag) → looks_at t object requester x ≡ true → x ≡ e) → ShapeGrants list t object requester want
    → AlwaysHas list t e want
had list t e object requester want one g = subst (λ (x : Tag). AlwaysHas list t x want) (one g.entry g.looks) g.has

-- if nothing is lost without a name, the shared entries keep what they had, and have what its entry had
entries_kept : (list : List Ace) (shape : EntryShape) (name : Tag) → IsNameOf shape name
    → LosesNothing list shape (taken_out name shape) → KeepsEntries list shape name
entries_kept list shape name is loses e shared there want few has =
    let t : EntryShape = taken_out name shape in
    let keys : TagColumn = (name, Allow) ∷ [] in
    let (free, next, own, f) = free_ids shape keys is.few (omega arith) in
    let w = out_part name shape in
    let ft = free_part shape t keys free next own w f in
    let whole = part_has shape t e w there in
    let ids : HasIds shape = record { users = is.users; groups = is.groups } in
    let tag : IsTag e = entry_id shape e ids whole in
    let known : IsTag name = entry_id shape name ids is.there in
    elim has [
      | inl first ↦
          let l = looks t keys e None free next own ft there tt in
          had list t e (object_at e None free next own) (requester_at e None free own) want
          (only t e None free next own shared there ft.own_group (λ h q. absurd cc) refl (λ h q. refl)
          (shared_class t (object_at e None free next own) (requester_at e None free own) e shared l))
          (loses (object_at e None free next own) (requester_at e None free own)
          (asked_by_tags e None free next own tag tt f.free_id f.next_id f.own_id) want few (record {
            entry = e;
            looks = looks shape keys e None free next own f whole tt;
            has = first;
          }))
      | inr second ↦
          let extra : IsExtra (may_match t e) keys (Some name) = (
            may_be_out shape name e is.named shared,
            ap (λ (b : Bool). b || false) (eq_by_cmp-refl name),
          ) in
          let l = looks t keys e (Some name) free next own ft there extra in
          had list t e (object_at e (Some name) free next own) (requester_at e (Some name) free own) want
          (only t e (Some name) free next own shared there ft.own_group
          (λ h q. f.own_group h (sym (ap (is_in_shape shape) (same_Some name (group h) q)) ∙ is.there))
          (not_owning name is.named) (not_rest shape name)
          (shared_class t (object_at e (Some name) free next own) (requester_at e (Some name) free own) e shared l))
          (loses (object_at e (Some name) free next own) (requester_at e (Some name) free own)
          (asked_by_tags e (Some name) free next own tag known f.free_id f.next_id f.own_id) want few (record {
            entry = name;
            looks = looked_out shape name e free next own keys f is.named is.there shared;
            has = second;
          }))
    ]

-- nothing is lost without a name if and only if the entries that stay keep what they and the name had
pub entries_decide : (list : List Ace) (shape : EntryShape) (name : Tag) → IsNameOf shape name
    → LosesNothing list shape (taken_out name shape) ↔ KeepsEntries list shape name
entries_decide list shape name is =
    (entries_kept list shape name is, nothing_lost list shape name is.named)
