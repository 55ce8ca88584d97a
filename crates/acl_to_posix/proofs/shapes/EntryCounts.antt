-- How many entries the ACL of a shape has.
use Rattle.std.proofs.Common.{◌≡◌, ◌≤◌, ◌+◌, ℕ, Bool, true, List, [], ◌∷◌, ◌++◌, refl, sym, ap, ◌∙◌, arith, inl, inr, length}
use Rattle.std.proofs.lemmas.Bool.{eqb-true, false≢true, or_cases}
use Rattle.std.proofs.lemmas.Cmp.{eq_by_cmp_equiv}
use Rattle.std.proofs.lemmas.List.{length-append, length-map}
use Rattle.std.proofs.lemmas.List.Folds.{list_any-append}
use Rattle.std.proofs.lemmas.Map.Keys.{IsDistinct-from_sorted}
use Rattle.std.proofs.lemmas.Map.Made.{length-le_from_is_member}
use Rattle.std.specs.Prelude.{◌==◌, ◌||◌, map}
use Rattle.std.specs.List.{list_any}
use Rattle.std.specs.Ordering.{eq_by_cmp}
use Rattle.std.specs.FinMap as fin
use Rattle.acl_perm.proofs.Bools.{or_true_right}
use Rattle.acl_posix.specs.Check.{is_member}
use Rattle.acl_posix.specs.Entries.{Entries, tags}
use Rattle.acl_posix.specs.Tag.{Tag, user_obj, user, group_obj, group, mask, other, tag_cmp}
use Rattle.acl_posix.specs.internal.TagCode.{tags_total}
use Rattle.acl_posix.proofs.Exports.{entries_sorted}
use Rattle.acl_nfs4.specs.Ace.{Ace}
use Rattle.acl_to_posix.specs.ToPosix.{EntryShape, HasShape, IsBest, size_of}
use Rattle.acl_to_posix.specs.internal.LossBody.{AreSmall}
use Rattle.acl_to_posix.specs.internal.ShapeBody.{AreColumns, most_names}
use Rattle.acl_to_posix.specs.declared.tag_column.TagColumns.{TagColumns}
use Rattle.acl_to_posix.proofs.Passes.{eq_by_cmp-refl}

-- the tags that the ACL of a shape can have
abbrev tags_for : EntryShape → List Tag
tags_for shape = user_obj ∷ group_obj ∷ mask ∷ other ∷ (map user shape.users ++ map group shape.groups)

-- the tag of a member of some ids is among those of the ids
named_tag : (make : ℕ → Tag) (xs : List ℕ) (id : ℕ) → is_member id xs ≡ true
    → list_any (eq_by_cmp tag_cmp (make id)) (map make xs) ≡ true
named_tag make [] id h = absurd (false≢true h)
named_tag make (x ∷ xs) id h = elim (or_cases (x == id) (is_member id xs) h) [
  | inl same ↦ ap (λ (b : Bool). b || list_any (eq_by_cmp tag_cmp (make id)) (map make xs))
      (ap (λ (n : ℕ). eq_by_cmp tag_cmp (make id) (make n)) (eqb-true x id same) ∙ eq_by_cmp-refl (make id))
  | inr more ↦ ap (λ (b : Bool). eq_by_cmp tag_cmp (make id) (make x) || b) (named_tag make xs id more)
      ∙ or_true_right (eq_by_cmp tag_cmp (make id) (make x))
]

-- each entry of the ACL has one of these tags
in_tags : (shape : EntryShape) (E : Entries) → HasShape shape E → (t : Tag) → fin.contains_key E t ≡ true
    → list_any (eq_by_cmp tag_cmp t) (tags_for shape) ≡ true
in_tags shape E s user_obj h = refl
in_tags shape E s (user id) h =
    list_any-append (eq_by_cmp tag_cmp (user id)) (map user shape.users) (map group shape.groups)
    ∙ ap (λ (b : Bool). b || list_any (eq_by_cmp tag_cmp (user id)) (map group shape.groups))
    (named_tag user shape.users id (sym (s.users id) ∙ h))
in_tags shape E s group_obj h = refl
in_tags shape E s (group id) h =
    list_any-append (eq_by_cmp tag_cmp (group id)) (map user shape.users) (map group shape.groups)
    ∙ (ap (λ (b : Bool). list_any (eq_by_cmp tag_cmp (group id)) (map user shape.users) || b)
    (named_tag group shape.groups id (sym (s.groups id) ∙ h))
    ∙ or_true_right (list_any (eq_by_cmp tag_cmp (group id)) (map user shape.users)))
in_tags shape E s mask h = refl
in_tags shape E s other h = refl

-- the ACL has at most four entries besides those of the users and groups of the shape
pub entries_few : (shape : EntryShape) (E : Entries) → HasShape shape E → length (fin.entries E) ≤ size_of shape + 4
entries_few shape E s =
    let le = length-le_from_is_member (eq_by_cmp_equiv tags_total) (tags (fin.entries E)) (tags_for shape)
    (IsDistinct-from_sorted tag_cmp (tags (fin.entries E)) (entries_sorted E))
    (λ t h. in_tags shape E s t (fin.contains_key-keys E t ∙ h)) in
    let long : length (tags (fin.entries E)) ≡ length (fin.entries E) = length-map (fin.entries E) (λ e. e.0) in
    let both = length-append (map user shape.users) (map group shape.groups) in
    let u = length-map shape.users user in
    let g = length-map shape.groups group in
    omega (arith, le, long, both, u, g)

-- the columns of a list and the ACL of a shape are small
pub small_of : (list : List Ace) (columns : TagColumns) (shape : EntryShape) (E : Entries) → AreColumns list columns
    → IsBest list shape E → size_of shape ≤ most_names → AreSmall columns E
small_of list columns shape E are best few = record {
  read = are.read.few;
  write = are.write.few;
  append = are.append.few;
  execute = are.execute.few;
  listed = let le = entries_few shape E best.shaped in omega (arith, le, few);
}
