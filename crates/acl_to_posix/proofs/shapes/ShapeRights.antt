-- The permissions of an entry: those of which the list grants the rights in every situation in which the check looks at
-- the entry.
use Rattle.std.proofs.Common.{◌≡◌, ◌≤◌, ◌+◌, ℕ, Bool, true, false, List, [], ◌∷◌, refl, sym, ap, subst, ◌∙◌, length, inl, inr}
use Rattle.std.specs.Prelude.{◌&&◌, ◌||◌, ◌==◌}
use Rattle.std.proofs.lemmas.Bool.{eqb-true, and_from}
use Rattle.acl_perm.proofs.Bools.{and_true}
use Rattle.acl_perm.proofs.Sets.{subset_test}
use Rattle.acl_perm.specs.Bits.{has_bit}
use Rattle.acl_posix.specs.Check.{ids, is_member}
use Rattle.acl_posix.specs.Id.{IsId}
use Rattle.acl_posix.specs.Tag.{Tag}
use Rattle.acl_posix.specs.declared.id.Id.{Id}
use Rattle.acl_nfs4.specs.Ace.{Ace}
use Rattle.acl_to_posix.specs.ToPosix.{EntryShape, is_in_shape, size_of}
use Rattle.acl_to_posix.specs.declared.posix_shape.PosixShape.{PosixShape}
use Rattle.acl_to_posix.specs.internal.ShapeBody.{AreColumns, HasJust, answer, most_names, entry_shape_of}
use Rattle.acl_to_posix.specs.declared.tag_column.TagColumns.{TagColumns}
use Rattle.acl_to_posix.specs.declared.tag_column.TagKey.{TagKey}
use Rattle.acl_to_posix.specs.internal.ListNamesBody.{named_shape}
use Rattle.acl_to_posix.specs.PruningLaws.{HasFewIds}
use Rattle.acl_to_posix.specs.declared.list_names.NamedIds.{NamedIds}
use Rattle.acl_to_posix.proofs.SituationIds.{HasIds}
use Rattle.acl_to_posix.proofs.shapes.AlwaysDecides.{decides_right}
use Rattle.acl_eval.proofs.Images.{image_right, rights, small_bit}

-- the permissions whose bits are the answers of the pass are those that the entry has
pub just : (list : List Ace) (columns : TagColumns) (shape : EntryShape) (entry : Tag) (perm : ℕ) → AreColumns list columns
    → HasIds shape → length shape.users + length shape.groups ≤ most_names → is_in_shape shape entry ≡ true
    → has_bit perm 2 ≡ answer shape entry columns.read.items
    → has_bit perm 1 ≡ (answer shape entry columns.write.items && answer shape entry columns.append.items)
    → has_bit perm 0 ≡ answer shape entry columns.execute.items
    → HasJust list shape entry perm
just list columns shape entry perm cs ids small there read write execute want few =
    let reads = decides_right list 0 columns.read.items shape entry cs.read ids small there in
    let writes = decides_right list 1 columns.write.items shape entry cs.write ids small there in
    let appends = decides_right list 2 columns.append.items shape entry cs.append ids small there in
    let executes = decides_right list 5 columns.execute.items shape entry cs.execute ids small there in (
      λ held object requester asked h bit has. elim (image_right want bit few has) [
        | inl at ↦ rw at.0 (reads.0 (sym read ∙ (subset_test perm want).0 held 2 at.1) object requester asked h)
        | inr more ↦ elim more [
          | inl at ↦ rw at.0 (writes.0 (and_true (answer shape entry columns.write.items)
              (answer shape entry columns.append.items) (sym write ∙ (subset_test perm want).0 held 1 at.1)).0
              object requester asked h)
          | inr rest ↦ elim rest [
            | inl at ↦ rw at.0 (appends.0 (and_true (answer shape entry columns.write.items)
                (answer shape entry columns.append.items) (sym write ∙ (subset_test perm want).0 held 1 at.1)).1
                object requester asked h)
            | inr at ↦ rw at.0 (executes.0 (sym execute ∙ (subset_test perm want).0 held 0 at.1)
                object requester asked h)
          ]
        ]
      ],
      λ all. (subset_test perm want).1 (λ k hk. elim (small_bit want k few hk) [
        | inl at ↦ rw at (execute ∙ executes.1 (λ object requester asked h. all object requester asked h 5
            (rights.execute.same want few ∙ subst (λ (n : ℕ). has_bit want n ≡ true) at hk)))
        | inr more ↦ elim more [
          | inl at ↦ rw at (write ∙ and_from _ _
              (writes.1 (λ object requester asked h. all object requester asked h 1
              (rights.write_data.same want few ∙ subst (λ (n : ℕ). has_bit want n ≡ true) at hk)))
              (appends.1 (λ object requester asked h. all object requester asked h 2
              (rights.append_data.same want few ∙ subst (λ (n : ℕ). has_bit want n ≡ true) at hk))))
          | inr at ↦ rw at (read ∙ reads.1 (λ object requester asked h. all object requester asked h 0
              (rights.read_data.same want few ∙ subst (λ (n : ℕ). has_bit want n ≡ true) at hk)))
        ]
      ]),
    )

-- ids of the code are ids
ids_are : (list : List Id) (id : ℕ) → is_member id (ids list) ≡ true → IsId id
ids_are [] id h = absurd cc
ids_are (x ∷ list) id h = by (ids_are list id) (x.value == id) refl h
  where
    by : (is_member id (ids list) ≡ true → IsId id) → (b : Bool) → (x.value == id) ≡ b
        → (b || is_member id (ids list)) ≡ true → IsId id
    by rest true e h = subst IsId (eqb-true x.value id e) x.within
    by rest false e h = rest h

-- the users and groups of a shape of the code are ids
pub shape_ids : (shape : PosixShape) → HasIds (entry_shape_of shape)
shape_ids shape = record { users = ids_are shape.users.now; groups = ids_are shape.groups.now }

-- the shape of users and groups of the code has ids, and not too many
pub few_ids : (named : NamedIds) → size_of (named_shape named) ≤ 65535 → HasFewIds (named_shape named)
few_ids named few = record {
  users = ids_are named.users.items;
  groups = ids_are named.groups.items;
  few = few;
}

-- what the pass answers over the keys that were given to it, it answers over the column
pub answered : (shape : EntryShape) (entry : Tag) (given keys : List TagKey) (found : Bool)
    → found ≡ answer shape entry given → given ≡ keys → found ≡ answer shape entry keys
answered shape entry given keys found is same = is ∙ ap (answer shape entry) same
