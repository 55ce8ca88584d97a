-- An entry of a user or a group can go, as the code judges it, only if nothing is lost without it.
use Rattle.std.proofs.Common.{◌≡◌, ◌≤◌, ℕ, Bool, true, false, List, refl, sym, ap, subst, ◌∙◌, arith, inl, inr}
use Rattle.std.proofs.lemmas.Bool.{cases_Bool, eq-eqb, false≢true, not-true}
use Rattle.std.specs.Prelude.{◌||◌, not, bit_and}
use Rattle.std.specs.Int.Bits.{and_self}
use Rattle.std.specs.List.{list_all}
use Rattle.std.specs.Ordering.{eq_by_cmp}
use Rattle.acl_perm.proofs.Bools.{and_true}
use Rattle.acl_perm.proofs.Sets.{subset_test}
use Rattle.acl_perm.specs.Bits.{IsPerm, has_bit}
use Rattle.acl_posix.specs.Check.{Object, Requester, contains, ids, is_member}
use Rattle.acl_posix.specs.Tag.{Tag, user_obj, user, group_obj, group, mask, other, is_named, tag_cmp, tag_of}
use Rattle.acl_posix.proofs.Exports.{same_tag}
use Rattle.acl_nfs4.specs.Ace.{Ace}
use Rattle.acl_eval.specs.Permissions.{execute, read, write}
use Rattle.acl_to_posix.specs.Pruning.{KeepsEntries, is_shared, taken_out}
use Rattle.acl_to_posix.specs.ToPosix.{AlwaysHas, EntryShape, is_in_class, is_in_shape, looks_at, size_of}
use Rattle.acl_to_posix.specs.internal.PruningBody.{AreJudged, IsJudged, are_before, is_asked_more, keeps_without, shape_left, stands_without}
use Rattle.acl_to_posix.specs.internal.ShapeBody.{AreColumns, HasPassAnswers, HasJust, answer, most_names}
use Rattle.acl_to_posix.specs.declared.judged_entry.JudgedEntry.{JudgedEntry}
use Rattle.acl_to_posix.specs.declared.tag_column.TagColumns.{TagColumns}
use Rattle.acl_to_posix.proofs.no_greatest.FreeIds.{eqb_comm}
use Rattle.acl_to_posix.proofs.TagRequesters.{is_eq-nat_cmp}
use Rattle.acl_to_posix.proofs.SituationIds.{HasIds}
use Rattle.acl_to_posix.proofs.shapes.AlwaysDecides.{decides_right}
use Rattle.acl_eval.proofs.Images.{rights}
use Rattle.acl_to_posix.proofs.prunings.JudgedEntries.{before_all, own_permissions, same_permissions}
use Rattle.acl_to_posix.proofs.prunings.Losses.{IsPart, but_keeps, class_part, none_less, out_part, out_size, part_has, part_ids}
use Rattle.acl_to_posix.proofs.shapes.ShapeRights.{just}
use Rattle.acl_to_posix.proofs.prunings.ShapesLeft.{entry_there, is_kept, left_ids, picked}
use Rattle.acl_to_posix.proofs.Matchings.{out_differs}

-- an entry with another tag is in the rest
still_there : (shape : EntryShape) (name t : Tag) → is_named name ≡ true → is_in_shape shape t ≡ true
    → eq_by_cmp tag_cmp t name ≡ false → is_in_shape (taken_out name shape) t ≡ true
still_there shape user_obj t n h d = absurd (false≢true n)
still_there shape (user u) user_obj n h d = h
still_there shape (user u) (user v) n h d = but_keeps v u shape.users h (eqb_comm v u ∙ sym (is_eq-nat_cmp v u) ∙ d)
still_there shape (user u) group_obj n h d = h
still_there shape (user u) (group v) n h d = h
still_there shape (user u) mask n h d = h
still_there shape (user u) other n h d = h
still_there shape group_obj t n h d = absurd (false≢true n)
still_there shape (group g) user_obj n h d = h
still_there shape (group g) (user v) n h d = h
still_there shape (group g) group_obj n h d = h
still_there shape (group g) (group v) n h d = but_keeps v g shape.groups h (eqb_comm v g ∙ sym (is_eq-nat_cmp v g) ∙ d)
still_there shape (group g) mask n h d = h
still_there shape (group g) other n h d = h
still_there shape mask t n h d = absurd (false≢true n)
still_there shape other t n h d = absurd (false≢true n)

-- wherever the check looked at a shared entry of the rest, it still does
still_looks : (whole part : EntryShape) (t : Tag) (object : Object) (requester : Requester) → IsPart whole part
    → is_shared t ≡ true → is_in_shape part t ≡ true → looks_at whole object requester t ≡ true
    → looks_at part object requester t ≡ true
still_looks whole part user_obj object requester w s h l = absurd (false≢true s)
still_looks whole part (user v) object requester w s h l = absurd (false≢true s)
still_looks whole part group_obj object requester w s h l =
    let two = and_true (is_in_class whole object requester) _ l in
    rw (class_part whole part object requester w two.0, two.1) refl
still_looks whole part (group v) object requester w s h l =
    let two = and_true (is_in_class whole object requester) _ l in
    let one = and_true (is_member v requester.groups) (is_member v whole.groups) two.1 in
    rw (class_part whole part object requester w two.0, one.0, h) refl
still_looks whole part mask object requester w s h l = absurd (false≢true s)
still_looks whole part other object requester w s h l =
    let two = and_true (is_in_class whole object requester) _ l in
    rw (
      class_part whole part object requester w two.0,
      none_less object.group whole.groups part.groups requester.groups w.groups (not-true _ two.1),
    ) refl

-- the ids of the rest are ids
HasIds-taken_out : (name : Tag) (shape : EntryShape) → HasIds shape → HasIds (taken_out name shape)
HasIds-taken_out name shape = part_ids shape (taken_out name shape) (out_part name shape)

-- ---- the permissions that an entry has

-- a set of permissions has each of its permissions
contains_itself : (p : ℕ) → contains p p ≡ true
contains_itself p = eq-eqb (bit_and p p) p (and_self p)

-- what a part has, the whole has
contains_part : (p q want : ℕ) → contains p q ≡ true → contains q want ≡ true → contains p want ≡ true
contains_part p q want h g = (subset_test p want).1 (λ k b. (subset_test p q).0 h k ((subset_test q want).0 g k b))

-- the permissions of an entry that is judged are those that the list always grants
judged_just : (list : List Ace) (columns : TagColumns) (shape : EntryShape) (t : Tag) (perm : ℕ) → AreColumns list columns
    → HasIds shape → size_of shape ≤ most_names → is_in_shape shape t ≡ true → HasPassAnswers columns shape t perm
    → HasJust list shape t perm
judged_just list columns shape t perm cs ids few there has =
    just list columns shape t perm cs ids few there has.of_read has.of_write has.of_execute

-- the answers of the pass for permissions that an entry always has
record AreAnswered (columns : TagColumns) (shape : EntryShape) (t : Tag) (perm : ℕ) : Type 0 where
  of_read : has_bit perm read ≡ true → answer shape t columns.read.items ≡ true
  of_write : has_bit perm write ≡ true → answer shape t columns.write.items ≡ true
  of_append : has_bit perm write ≡ true → answer shape t columns.append.items ≡ true
  of_execute : has_bit perm execute ≡ true → answer shape t columns.execute.items ≡ true

-- the pass over the columns of a list answers so for an entry that always has these permissions
answers_of : (list : List Ace) (columns : TagColumns) (shape : EntryShape) (t : Tag) (perm : ℕ) → AreColumns list columns
    → HasIds shape → size_of shape ≤ most_names → is_in_shape shape t ≡ true → IsPerm perm
    → AlwaysHas list shape t perm → AreAnswered columns shape t perm
answers_of list columns shape t perm cs ids small there few all = record {
  of_read = λ h. (decides_right list 0 columns.read.items shape t cs.read ids small there).1
      (λ object requester asked l. all object requester asked l 0 (rights.read_data.same perm few ∙ h));
  of_write = λ h. (decides_right list 1 columns.write.items shape t cs.write ids small there).1
      (λ object requester asked l. all object requester asked l 1 (rights.write_data.same perm few ∙ h));
  of_append = λ h. (decides_right list 2 columns.append.items shape t cs.append ids small there).1
      (λ object requester asked l. all object requester asked l 2 (rights.append_data.same perm few ∙ h));
  of_execute = λ h. (decides_right list 5 columns.execute.items shape t cs.execute ids small there).1
      (λ object requester asked l. all object requester asked l 5 (rights.execute.same perm few ∙ h));
}

-- ---- a name that can go

-- an entry of the rest that stands without a name keeps what it has
record StaysWithout (name entry : JudgedEntry) : Type 0 where
  part : contains entry.perm.bits name.perm.bits ≡ true
  before : is_asked_more (tag_of entry.tag) (tag_of name.tag) ≡ true → are_before entry.decided name.denied ≡ true

-- so stays a shared entry that passes the test and is not that of the name
stays_without : (name entry : JudgedEntry) → stands_without name entry ≡ true → is_shared (tag_of entry.tag) ≡ true
    → eq_by_cmp tag_cmp (tag_of entry.tag) (tag_of name.tag) ≡ false → StaysWithout name entry
stays_without name entry h s d =
    let keeps : keeps_without name entry ≡ true = sym (ap (λ (b : Bool). not b
    || (eq_by_cmp tag_cmp (tag_of entry.tag) (tag_of name.tag) || keeps_without name entry)) s
    ∙ ap (λ (b : Bool). b || keeps_without name entry) d) ∙ h in
    let two = and_true (contains entry.perm.bits name.perm.bits) _ keeps in
    record {
      part = two.0;
      before = λ more. sym (ap (λ (b : Bool). not b || are_before entry.decided name.denied) more) ∙ two.1;
    }

-- an entry without the name
pub judged_out : (columns : TagColumns) (shape : EntryShape) (name entry : JudgedEntry) → is_named (tag_of name.tag) ≡ true
    → IsJudged columns shape name → is_kept (tag_of name.tag) entry ≡ true → stands_without name entry ≡ true
    → IsJudged columns shape entry → IsJudged columns (taken_out (tag_of name.tag) shape) entry
judged_out columns shape name entry n jn kept stands j =
    let differ = not-true _ kept in record {
      there = still_there shape (tag_of name.tag) (tag_of entry.tag) n j.there differ;
      answers = elim (cases_Bool (is_shared (tag_of entry.tag))) [
        | inl s ↦ same_permissions columns shape (tag_of name.tag) (tag_of entry.tag) entry.perm.bits entry.decided
            name.denied n s j.answers j.decided jn.denied (stays_without name entry stands s differ).before
        | inr s ↦ own_permissions columns shape (tag_of name.tag) (tag_of entry.tag) entry.perm.bits s j.answers
      ];
      decided = j.decided;
      denied = j.denied;
    }

-- if each entry stands without the name, the entries keep what they had
pub entries_stand : (list : List Ace) (columns : TagColumns) (left : List JudgedEntry) (name : JudgedEntry)
    → AreColumns list columns → AreJudged columns left → IsJudged columns (shape_left left) name
    → is_named (tag_of name.tag) ≡ true → list_all (stands_without name) left ≡ true
    → KeepsEntries list (shape_left left) (tag_of name.tag)
entries_stand list columns left name cs js jn n stand t shared there want few has =
    let shape = shape_left left in
    let out = taken_out (tag_of name.tag) shape in
    let ids = left_ids left in
    let inside = part_has shape out t (out_part (tag_of name.tag) shape) there in
    let (e, same, stands, j) = picked (λ e. eq_by_cmp tag_cmp (tag_of e.tag) t) (stands_without name)
    (IsJudged columns shape) left (entry_there columns left t js (rw shared refl) inside) stand js.0.each in
    let is : tag_of e.tag ≡ t = same_tag (tag_of e.tag) t same in
    let s : is_shared (tag_of e.tag) ≡ true = ap is_shared is ∙ shared in
    let differ : eq_by_cmp tag_cmp (tag_of e.tag) (tag_of name.tag) ≡ false =
    ap (λ (x : Tag). eq_by_cmp tag_cmp x (tag_of name.tag)) is ∙ out_differs (tag_of name.tag) t shape n there in
    let after = judged_out columns shape name e n jn (ap (λ (b : Bool). not b) differ) stands j in
    let small : size_of out ≤ most_names = let le = out_size (tag_of name.tag) shape in omega (arith, le, js.1) in
    let now = judged_just list columns out (tag_of e.tag) e.perm.bits cs (HasIds-taken_out (tag_of name.tag) shape ids)
    small
    after.there after.answers in
    let before = judged_just list columns shape (tag_of e.tag) e.perm.bits cs ids js.1 j.there j.answers in
    let own = judged_just list columns shape (tag_of name.tag) name.perm.bits cs ids js.1 jn.there jn.answers in
    subst (λ (x : Tag). AlwaysHas list out x want) is ((now want few).0 (elim has [
      | inl first ↦ (before want few).1 (subst (λ (x : Tag). AlwaysHas list shape x want) (sym is) first)
      | inr second ↦ contains_part e.perm.bits name.perm.bits want (stays_without name e stands s differ).part
          ((own want few).1 second)
    ]))

-- if the entries keep what they had, each entry stands without the name
pub stands_if : (list : List Ace) (columns : TagColumns) (left : List JudgedEntry) (name : JudgedEntry)
    → AreColumns list columns → AreJudged columns left → IsJudged columns (shape_left left) name
    → is_named (tag_of name.tag) ≡ true → KeepsEntries list (shape_left left) (tag_of name.tag)
    → (e : JudgedEntry) → IsJudged columns (shape_left left) e → stands_without name e ≡ true
stands_if list columns left name cs js jn n keeps e j =
    by (is_shared (tag_of e.tag)) (eq_by_cmp tag_cmp (tag_of e.tag) (tag_of name.tag)) refl refl
  where
    shape : EntryShape
    shape = shape_left left

    out : EntryShape
    out = taken_out (tag_of name.tag) shape

    small : size_of out ≤ most_names
    small = let le = out_size (tag_of name.tag) shape in omega (arith, le, js.1)

    kept : is_shared (tag_of e.tag) ≡ true → is_in_shape out (tag_of e.tag) ≡ true → keeps_without name e ≡ true
    kept s there =
        let ids = left_ids left in
        let before = judged_just list columns shape (tag_of e.tag) e.perm.bits cs ids js.1 j.there j.answers in
        let own = judged_just list columns shape (tag_of name.tag) name.perm.bits cs ids js.1 jn.there jn.answers in
        let gains : AlwaysHas list out (tag_of e.tag) name.perm.bits =
        keeps (tag_of e.tag) s there name.perm.bits name.perm.within
        (inr ((own name.perm.bits name.perm.within).0 (contains_itself name.perm.bits))) in
        let stays : AlwaysHas list out (tag_of e.tag) e.perm.bits =
        keeps (tag_of e.tag) s there e.perm.bits e.perm.within
        (inl ((before e.perm.bits e.perm.within).0 (contains_itself e.perm.bits))) in
        let part = (before name.perm.bits name.perm.within).1 (λ o r asked l. gains o r asked
        (still_looks shape out (tag_of e.tag) o r (out_part (tag_of name.tag) shape) s there l)) in
        let answers = answers_of list columns out (tag_of e.tag) e.perm.bits cs
        (HasIds-taken_out (tag_of name.tag) shape ids)
        small there e.perm.within stays in
        rw part (asked (is_asked_more (tag_of e.tag) (tag_of name.tag)) (λ more. before_all columns shape
        (tag_of name.tag) (tag_of e.tag) e.perm.bits e.decided name.denied n s answers.of_read answers.of_write
        answers.of_append answers.of_execute j.decided jn.denied more))
      where
        asked : (m : Bool) → (m ≡ true → are_before e.decided name.denied ≡ true)
            → (not m || are_before e.decided name.denied) ≡ true
        asked true f = f refl
        asked false f = refl

    by : (s d : Bool) → is_shared (tag_of e.tag) ≡ s → eq_by_cmp tag_cmp (tag_of e.tag) (tag_of name.tag) ≡ d
        → (not s || (d || keeps_without name e)) ≡ true
    by false d se de = refl
    by true true se de = refl
    by true false se de = kept se (still_there shape (tag_of name.tag) (tag_of e.tag) n j.there de)
