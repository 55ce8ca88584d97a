-- What the code finds out about the users and groups that can go is what the definitions say of the list.
use Rattle.std.proofs.Common.{◌≡◌, ◌≤◌, ◌<◌, ◌+◌, ℕ, Bool, true, false, cond, List, [], ◌∷◌, None, Some, refl, sym, ap, subst, ◌∙◌, arith, inl, inr, length, ◌++◌, get_or, take}
use Rattle.std.proofs.lemmas.Bool.{false≢true, true≢false, not-true, or_cases}
use Rattle.std.proofs.lemmas.List.{take_more}
use Rattle.std.proofs.lemmas.List.Folds.{list_any-append}
use Rattle.std.proofs.lemmas.Option.{same_Some}
use Rattle.std.specs.Prelude.{◌⊎◌, ◌||◌, not, filter}
use Rattle.std.specs.List.{AllByRecursion, find, list_all, list_any}
use Rattle.std.specs.Ordering.{eq_by_cmp}
use Rattle.std.proofs.ByRecursion.{All-push}
use Rattle.acl_perm.proofs.Bools.{and_true, or_true_right}
use Rattle.acl_posix.specs.Check.{ids}
use Rattle.acl_posix.specs.Tag.{Tag, user_obj, user, group_obj, group, mask, other, is_named, tag_cmp, tag_of}
use Rattle.acl_posix.specs.declared.id.Id.{Id}
use Rattle.acl_posix.proofs.Exports.{same_tag, unnamed_is_not_named}
use Rattle.acl_nfs4.specs.Ace.{Ace}
use Rattle.acl_to_posix.specs.Pruning.{IsNameOf, KeepsEntries, LosesNothing, Prunes, next, is_shared, taken_out}
use Rattle.acl_to_posix.specs.ToPosix.{EntryShape, is_in_shape, size_of}
use Rattle.acl_to_posix.specs.internal.PruningBody.{AreJudged, AreJudgedFor, IsJudged, can_go, groups_left, has_entry, shape_left, stands_without, users_left, group_before, user_before}
use Rattle.acl_to_posix.specs.internal.ShapeBody.{AreColumns, most_names}
use Rattle.acl_to_posix.specs.declared.judged_entry.JudgedEntry.{JudgedEntry}
use Rattle.acl_to_posix.specs.declared.tag_column.TagColumns.{TagColumns}
use Rattle.acl_to_posix.proofs.Passes.{eq_by_cmp-refl}
use Rattle.acl_to_posix.proofs.prunings.Losses.{out_size}
use Rattle.acl_to_posix.proofs.prunings.KeptEntries.{entries_decide}
use Rattle.acl_to_posix.proofs.shapes.ShapeBuilding.{length-ids, id_at}
use Rattle.acl_to_posix.proofs.prunings.ShapesLeft.{all_pass, entry_there, filtered, first_found, is_kept, left_ids, none_found, out_shape, picked, same_shape, shape_with}
use Rattle.acl_to_posix.proofs.prunings.NamesToGo.{entries_stand, judged_out, stands_if}

-- a user or a group that is left
name_left : (columns : TagColumns) (left : List JudgedEntry) (name : Tag) → AreJudged columns left → is_named name ≡ true
    → is_in_shape (shape_left left) name ≡ true → IsNameOf (shape_left left) name
name_left columns left name js n there = let ids = left_ids left in record {
  named = n;
  there = there;
  users = ids.users;
  groups = ids.groups;
  few = js.1;
}

-- what is known of the first entry that can go
pub record Goes (list : List Ace) (columns : TagColumns) (left : List JudgedEntry) (name : Tag) : Type 0 where
  pub named : is_named name ≡ true
  pub there : is_in_shape (shape_left left) name ≡ true
  pub loses : LosesNothing list (shape_left left) (taken_out name (shape_left left))
  pub rest : AreJudged columns (filter (is_kept name) left)

-- GROUP_OBJ and OTHER are still there
unnamed_left : (t name : Tag) (left : List JudgedEntry) → eq_by_cmp tag_cmp t name ≡ false → has_entry t left ≡ true
    → has_entry t (filter (is_kept name) left) ≡ true
unnamed_left t name [] d h = absurd (false≢true h)
unnamed_left t name (e ∷ left) d h = by (unnamed_left t name left d) (eq_by_cmp tag_cmp (tag_of e.tag) name) refl
    (or_cases (eq_by_cmp tag_cmp (tag_of e.tag) t) (has_entry t left) h)
  where
    by : (has_entry t left ≡ true → has_entry t (filter (is_kept name) left) ≡ true) → (b : Bool)
        → eq_by_cmp tag_cmp (tag_of e.tag) name ≡ b
        → (eq_by_cmp tag_cmp (tag_of e.tag) t ≡ true) ⊎ (has_entry t left ≡ true)
        → has_entry t (cond (not b) (e ∷ filter (is_kept name) left) (filter (is_kept name) left)) ≡ true
    by rest true q (inl here) = absurd (true≢false (sym q
        ∙ (ap (λ (x : Tag). eq_by_cmp tag_cmp x name) (same_tag (tag_of e.tag) t here) ∙ d)))
    by rest true q (inr more) = rest more
    by rest false q (inl here) = ap (λ (b : Bool). b || has_entry t (filter (is_kept name) left)) here
    by rest false q (inr more) = ap (λ (b : Bool). eq_by_cmp tag_cmp (tag_of e.tag) t || b) (rest more)
        ∙ or_true_right (eq_by_cmp tag_cmp (tag_of e.tag) t)

-- the first entry that can go is that of a name without which nothing is lost
pub goes : (list : List Ace) (columns : TagColumns) (left : List JudgedEntry) (name : JudgedEntry)
    → AreColumns list columns
    → AreJudged columns left → find (can_go left) left ≡ Some name → Goes list columns left (tag_of name.tag)
goes list columns left name cs js found =
    let shape = shape_left left in
    let tag = tag_of name.tag in
    let (goes, jn) = first_found (can_go left) (IsJudged columns shape) left name found js.0.each in
    let two = and_true (is_named tag) (list_all (stands_without name) left) goes in
    let more : AllByRecursion (IsJudged columns (taken_out tag shape)) (filter (is_kept tag) left) =
    filtered (is_kept tag) (stands_without name) (IsJudged columns shape) (IsJudged columns (taken_out tag shape)) left
    two.1 js.0.each (λ e kept stands j. judged_out columns shape name e two.0 jn kept stands j) in
    let is = out_shape tag left two.0 in
    let le = out_size tag shape in
    record {
      named = two.0;
      there = jn.there;
      loses = (entries_decide list shape tag (name_left columns left tag js two.0 jn.there)).1
          (entries_stand list columns left name cs js jn two.0 two.1);
      rest = (
        record {
          each =
              subst (λ (s : EntryShape). AllByRecursion (IsJudged columns s) (filter (is_kept tag) left)) (sym is) more;
          named = refl;
          owning = unnamed_left group_obj tag left (unnamed_is_not_named group_obj tag refl two.0) js.0.owning;
          others = unnamed_left other tag left (unnamed_is_not_named other tag refl two.0) js.0.others;
        },
        subst (λ (s : EntryShape). size_of s ≤ most_names) (sym is) (omega (arith, le, js.1)),
      );
    }

-- one more step in front of those that follow
pub step_before : (list : List Ace) (columns : TagColumns) (left : List JudgedEntry) (name : JudgedEntry)
    (two : EntryShape) → AreColumns list columns → AreJudged columns left → find (can_go left) left ≡ Some name
    → Prunes list (shape_left (filter (is_kept (tag_of name.tag)) left)) two → Prunes list (shape_left left) two
step_before list columns left name two cs js found rest =
    let g = goes list columns left name cs js found in
    next (shape_left left) two (tag_of name.tag) g.named g.there g.loses
    (subst (λ (s : EntryShape). Prunes list s two) (out_shape (tag_of name.tag) left g.named) rest)

-- none can go
pub none_goes : (list : List Ace) (columns : TagColumns) (left : List JudgedEntry) → AreColumns list columns
    → AreJudged columns left → find (can_go left) left ≡ None → (name : Tag) → is_named name ≡ true
    → is_in_shape (shape_left left) name ≡ true → LosesNothing list (shape_left left) (taken_out name (shape_left left))
    → ⊥
none_goes list columns left cs js none name n there loses =
    let shape = shape_left left in
    let (e, same, stays, j) = picked (λ e. eq_by_cmp tag_cmp (tag_of e.tag) name) (λ e. not (can_go left e))
    (IsJudged columns shape) left
    (entry_there columns left name js (ap (λ (b : Bool). is_shared name || b) n ∙ or_true_right (is_shared name)) there)
    (none_found (can_go left) left none) js.0.each in
    let is : tag_of e.tag ≡ name = same_tag (tag_of e.tag) name same in
    let named : is_named (tag_of e.tag) ≡ true = ap is_named is ∙ n in
    let keeps : KeepsEntries list shape (tag_of e.tag) = subst (KeepsEntries list shape) (sym is)
    ((entries_decide list shape name (name_left columns left name js n there)).0 loses) in
    let stand : list_all (stands_without e) left ≡ true = all_pass (stands_without e) (IsJudged columns shape) left
    js.0.each (stands_if list columns left e cs js j named keeps) in
    let can : can_go left e ≡ true = rw (named, stand) refl in
    true≢false (sym can ∙ not-true (can_go left e) stays)

-- the entry that was found is not kept
pub taken_tag : (e : JudgedEntry) → is_kept (tag_of e.tag) e ≡ false
taken_tag e = ap (λ (b : Bool). not b) (eq_by_cmp-refl (tag_of e.tag))

-- what was found passes
found_passes : {X : Type 0} (test : X → Bool) (xs : List X) (x : X) → find test xs ≡ Some x → test x ≡ true
found_passes test [] x h = absurd cc
found_passes {X} test (y ∷ xs) x h = by (found_passes test xs x) (test y) refl h
  where
    by : (find test xs ≡ Some x → test x ≡ true) → (b : Bool) → test y ≡ b → cond b (Some y) (find test xs) ≡ Some x
        → test x ≡ true
    by rest true e h = ap test (sym (same_Some y x h)) ∙ e
    by rest false e h = rest h

-- there are not more users and groups
pub fewer : (left : List JudgedEntry) (name : JudgedEntry) → find (can_go left) left ≡ Some name
    → size_of (shape_left (filter (is_kept (tag_of name.tag)) left)) ≤ size_of (shape_left left)
fewer left name found =
    let n = (and_true (is_named (tag_of name.tag)) _ (found_passes (can_go left) left name found)).0 in
    subst (λ (s : EntryShape). size_of s ≤ size_of (shape_left left)) (sym (out_shape (tag_of name.tag) left n))
    (out_size (tag_of name.tag) (shape_left left))

-- ---- the entries at the start

-- the users, if one entry more is behind them
users_behind : (left : List JudgedEntry) (e : JudgedEntry)
    → users_left (left ++ e ∷ []) ≡ users_left left ++ user_before (tag_of e.tag) []
users_behind [] e = refl
users_behind (x ∷ left) e = ap (user_before (tag_of x.tag)) (users_behind left e)
    ∙ by (tag_of x.tag) (users_left left) (user_before (tag_of e.tag) [])
  where
    by : (t : Tag) (xs ys : List ℕ) → user_before t (xs ++ ys) ≡ user_before t xs ++ ys
    by user_obj xs ys = refl
    by (user id) xs ys = refl
    by group_obj xs ys = refl
    by (group id) xs ys = refl
    by mask xs ys = refl
    by other xs ys = refl

-- the groups, if one entry more is behind them
groups_behind : (left : List JudgedEntry) (e : JudgedEntry)
    → groups_left (left ++ e ∷ []) ≡ groups_left left ++ group_before (tag_of e.tag) []
groups_behind [] e = refl
groups_behind (x ∷ left) e = ap (group_before (tag_of x.tag)) (groups_behind left e)
    ∙ by (tag_of x.tag) (groups_left left) (group_before (tag_of e.tag) [])
  where
    by : (t : Tag) (xs ys : List ℕ) → group_before t (xs ++ ys) ≡ group_before t xs ++ ys
    by user_obj xs ys = refl
    by (user id) xs ys = refl
    by group_obj xs ys = refl
    by (group id) xs ys = refl
    by mask xs ys = refl
    by other xs ys = refl

-- what some element passes, some element passes if one more is behind them
some_behind : {X : Type 0} (p : X → Bool) (xs : List X) (x : X) → list_any p xs ≡ true
    → list_any p (xs ++ x ∷ []) ≡ true
some_behind p xs x h = list_any-append p xs (x ∷ []) ∙ ap (λ (b : Bool). b || list_any p (x ∷ [])) h

-- one more entry
entry_behind : (columns : TagColumns) (shape done more : EntryShape) (left pushed : List JudgedEntry) (e : JudgedEntry)
    → AreJudgedFor columns shape done left → IsJudged columns shape e → pushed ≡ left ++ e ∷ []
    → shape_with (done.users ++ user_before (tag_of e.tag) []) (done.groups ++ group_before (tag_of e.tag) []) ≡ more
    → AreJudgedFor columns shape more pushed
entry_behind columns shape done more left pushed e a j is grows =
    subst (AreJudgedFor columns shape more) (sym is) (record {
      each = All-push (IsJudged columns shape) left e a.each j;
      named = same_shape _ _ _ _
          (users_behind left e ∙ ap (λ (s : EntryShape). s.users ++ user_before (tag_of e.tag) []) a.named)
          (groups_behind left e ∙ ap (λ (s : EntryShape). s.groups ++ group_before (tag_of e.tag) []) a.named) ∙ grows;
      owning = some_behind (λ x. eq_by_cmp tag_cmp (tag_of x.tag) group_obj) left e a.owning;
      others = some_behind (λ x. eq_by_cmp tag_cmp (tag_of x.tag) other) left e a.others;
    })

-- the numbers up to a place, and the one at the place
one_number : (list : List Id) (i : ℕ) (id : Id) → i < length list → id ≡ get_or list i id
    → take i (ids list) ++ id.value ∷ [] ≡ take (i + 1) (ids list)
one_number list i id lt at =
    ap (λ (n : ℕ). take i (ids list) ++ n ∷ []) (sym (id_at list i id lt at))
    ∙ sym (take_more (ids list) i 0 (omega (arith, lt, length-ids list)))

-- numbers with none behind them are the same numbers
append-nil : (xs : List ℕ) → xs ++ [] ≡ xs
append-nil [] = refl
append-nil (x ∷ xs) = ap (λ (ns : List ℕ). x ∷ ns) (append-nil xs)

-- the entry of the next user
pub user_behind : (columns : TagColumns) (shape : EntryShape) (list : List Id) (i : ℕ) (id : Id)
    (left pushed : List JudgedEntry) (e : JudgedEntry) → i < length list → id ≡ get_or list i id
    → IsJudged columns shape e → tag_of e.tag ≡ user id.value → pushed ≡ left ++ e ∷ []
    → AreJudgedFor columns shape (shape_with (take i (ids list)) []) left
    → AreJudgedFor columns shape (shape_with (take (i + 1) (ids list)) []) pushed
user_behind columns shape list i id left pushed e lt at j tag is a =
    entry_behind columns shape (shape_with (take i (ids list)) []) (shape_with (take (i + 1) (ids list)) [])
    left pushed e a j is (same_shape _ _ _ _
    (ap (λ (t : Tag). take i (ids list) ++ user_before t []) tag ∙ one_number list i id lt at)
    (ap (λ (t : Tag). group_before t []) tag))

-- the entry of the next group
pub group_behind : (columns : TagColumns) (shape : EntryShape) (users : List ℕ) (list : List Id) (i : ℕ) (id : Id)
    (left pushed : List JudgedEntry) (e : JudgedEntry) → i < length list → id ≡ get_or list i id
    → IsJudged columns shape e → tag_of e.tag ≡ group id.value → pushed ≡ left ++ e ∷ []
    → AreJudgedFor columns shape (shape_with users (take i (ids list))) left
    → AreJudgedFor columns shape (shape_with users (take (i + 1) (ids list))) pushed
group_behind columns shape users list i id left pushed e lt at j tag is a =
    entry_behind columns shape (shape_with users (take i (ids list))) (shape_with users (take (i + 1) (ids list))) left
    pushed e a j is (same_shape _ _ _ _
    (ap (λ (t : Tag). users ++ user_before t []) tag ∙ append-nil users)
    (ap (λ (t : Tag). take i (ids list) ++ group_before t []) tag ∙ one_number list i id lt at))

-- entries for a whole shape are judged
pub whole_judged : (columns : TagColumns) (shape : EntryShape) (left : List JudgedEntry)
    → AreJudgedFor columns shape shape left → size_of shape ≤ most_names → AreJudged columns left
whole_judged columns shape left a few = (
  subst (λ (s : EntryShape). AreJudgedFor columns s s left) (sym a.named) a,
  subst (λ (s : EntryShape). size_of s ≤ most_names) (sym a.named) few,
)
