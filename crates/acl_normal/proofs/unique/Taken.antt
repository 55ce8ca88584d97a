-- The keys of the normal form are keys of the source.
use Rattle.std.proofs.Common.{Bool, List, [], false, length, refl, true, ℕ, ◌++◌, ◌<◌, ◌∷◌, ◌≡◌, ◌≤◌}
use Rattle.acl_normal.proofs.Common.{Ace, Column, ColumnKey, Has, HasMasks, IsAlike, IsIrreducibleList, IsNormal, IsNormalFormOf, IsOnce, IsReducedOf, Kind, SameGrants, all_rights, ap, arith, cases_lt, column, default, equivalence, everyone, false_from_ne_true, first_kind, is_either, is_needed, is_none, left, needed_keys, reduced, subst, unshadowed, ⊎_elim, ◌∙◌}
use Rattle.acl_normal.proofs.unique.Forming.{IsTaken, first_same, form_from}
use Rattle.acl_normal.proofs.unique.Free.{once_from_clean}
use Rattle.acl_normal.proofs.unique.Irreducible.{irreducible_clean}
use Rattle.acl_normal.proofs.emit.Leaving.{alike_length, column_left, masks_of_quiet, same_left}
use Rattle.acl_normal.proofs.unique.Names.{overlaps_itself}
use Rattle.acl_normal.proofs.unique.Normal.{quiet_flags}
use Rattle.acl_normal.proofs.unique.Bits.{below}
use Rattle.acl_normal.proofs.reduce.Shorter.{reduced_shorter}
use Rattle.acl_normal.proofs.unique.SameOrder.{has_once, once_has}
use Rattle.acl_normal.proofs.unique.Weights.{weight_falls}
use Rattle.acl_normal.proofs.unique.IrreducibleLists.{alike_columns, irreducible_column, no_other_bits}

-- ---- the reduction adds no key

-- a key of a column is also a key of the column with one more key in front
has_behind : (f e : ColumnKey) (c : Column) → Has c e → Has (f ∷ c) e
has_behind f e c h = record { before = f ∷ h.before; after = h.after; is = ap (λ v. f ∷ v) h.is }

-- a key of a column that begins with another is that one, or one of the rest
first_or_rest : (f e : ColumnKey) (c d : Column) → ((h : Has c e) → Has d e) → (f ≡ e → Has d e) → Has (f ∷ c) e
    → Has d e
first_or_rest f e c d rest first h = go h.before h.is
  where
    go : (before : Column) → f ∷ c ≡ before ++ e ∷ h.after → Has d e
    go [] is = first (first_same f e c h.after is).0
    go (g ∷ before) is =
        rest (record { before = before; after = h.after; is = (first_same f g c (before ++ e ∷ h.after) is).1 })

-- the first key of a column is a key of it
at_front : (f e : ColumnKey) (c : Column) → f ≡ e → Has (f ∷ c) e
at_front f e c same = record { before = []; after = c; is = ap (λ v. v ∷ c) same }

-- the empty column has no key
pub no_key : {P : Type 0} (e : ColumnKey) → Has [] e → P
no_key e h = go h.before h.is
  where
    go : {P : Type 0} (before : Column) → [] ≡ before ++ e ∷ h.after → P
    go [] is = cc
    go (f ∷ before) is = cc

-- an unshadowed key of a column is a key of it
unshadowed_within : (before c : Column) (e : ColumnKey) → Has (unshadowed before c) e → Has c e
unshadowed_within before [] e h = no_key e h
unshadowed_within before ((p, k) ∷ c) e h =
    go (is_none (first_kind (is_either p everyone) before)) refl (unshadowed_within (before ++ (p, k) ∷ []) c e)
  where
    go : (t : Bool) → is_none (first_kind (is_either p everyone) before) ≡ t
        → (Has (unshadowed (before ++ (p, k) ∷ []) c) e → Has c e) → Has ((p, k) ∷ c) e
    go true i ih =
        first_or_rest (p, k) e (unshadowed (before ++ (p, k) ∷ []) c) ((p, k) ∷ c) (λ r. has_behind (p, k) e c (ih r))
        (at_front (p, k) e c) (rw i at h)
    go false i ih = has_behind (p, k) e c (ih (rw i at h))

-- a needed key of a column is a key of it
needed_within : (d : Kind) (c : Column) (e : ColumnKey) → Has (needed_keys d c) e → Has c e
needed_within d [] e h = no_key e h
needed_within d ((p, k) ∷ c) e h = go (is_needed d p k c) refl (needed_within d c e)
  where
    go : (t : Bool) → is_needed d p k c ≡ t → (Has (needed_keys d c) e → Has c e) → Has ((p, k) ∷ c) e
    go true i ih =
        first_or_rest (p, k) e (needed_keys d c) ((p, k) ∷ c) (λ r. has_behind (p, k) e c (ih r))
        (at_front (p, k) e c) (rw i at h)
    go false i ih = has_behind (p, k) e c (ih (rw i at h))

-- a key of a reduced column is one of the column
pub reduced_within : (c : Column) (e : ColumnKey) → Has (reduced c) e → Has c e
reduced_within c e h = unshadowed_within [] c e (needed_within (default (unshadowed [] c)) (unshadowed [] c) e h)

-- ---- the normal form of a reduced list

-- a normal list has each principal at most once at a bit
pub normal_once : (ns : List Ace) (b : ℕ) → IsNormal ns → IsOnce (column ns b)
normal_once ns b n =
    once_from_clean (column ns b) (irreducible_clean (column ns b) (irreducible_column ns b n.irreducible))

-- a normal list that grants the same has columns alike those of what is left
pub normal_alike : (xs ys ns : List Ace) (b : ℕ) → IsIrreducibleList (left ys) → SameGrants all_rights xs ys
    → IsNormal ns
    → SameGrants all_rights xs ns → IsAlike (column ys b) (column ns b)
normal_alike xs ys ns b irr f n g =
    subst (λ c. IsAlike c (column ns b)) (column_left b ys) (alike_columns (left ys) ns irr n.irreducible same b)
  where
    same : SameGrants all_rights (left ys) ns
    same =
        (equivalence all_rights).transitive (left ys) ys ns
        ((equivalence all_rights).symmetric ys (left ys) (same_left ys))
        ((equivalence all_rights).transitive ys xs ns ((equivalence all_rights).symmetric xs ys f) g)

-- a normal list has no key at a bit above the rights
no_high_key : (ns : List Ace) (b : ℕ) → IsNormal ns → 21 ≤ b → column ns b ≡ []
no_high_key ns b n l = no_other_bits ns b n.irreducible (false_from_ne_true _ (λ t. absurd (high (below b t))))
  where
    high : b < 21 → ⊥
    high m = omega (arith, l, m)

-- the normal form of a list has keys of the list alone, and no more of them
pub is_taken : (xs ys ns : List Ace) → ((b : ℕ) → b < 21 → column ys b ≡ reduced (column xs b))
    → IsIrreducibleList (left ys)
    → SameGrants all_rights xs ys → IsNormal ns → SameGrants all_rights ys ns → IsTaken xs ns
is_taken xs ys ns columns irr f n g = record {
  normal = n;
  grants = (equivalence all_rights).transitive xs ys ns f g;
  lighter = weight_falls xs ns (quiet_flags ns n.flags) masks fewer;
  comes = λ b e h. ⊎_elim (λ l. reduced_within (column xs b) e (subst (λ c. Has c e) (columns b l) (in_rows b e h)))
      (λ l. no_key e (subst (λ c. Has c e) (no_high_key ns b n l) h)) (cases_lt b 21);
}
  where
    masks : HasMasks ns
    masks = masks_of_quiet ns (quiet_flags ns n.flags) (λ b out. no_other_bits ns b n.irreducible out)

    like : (b : ℕ) → IsAlike (column ys b) (column ns b)
    like b = normal_alike xs ys ns b irr f n ((equivalence all_rights).transitive xs ys ns f g)

    once : (b : ℕ) → IsOnce (column ys b)
    once b =
        subst IsOnce (column_left b ys)
        (once_from_clean (column (left ys) b)
        (irreducible_clean (column (left ys) b) (irreducible_column (left ys) b irr)))

    in_rows : (b : ℕ) (e : ColumnKey) → Has (column ns b) e → Has (column ys b) e
    in_rows b (p, k) h =
        has_once (column ys b) p k (like b p p (overlaps_itself p) ∙ once_has (column ns b) p k (normal_once ns b n) h)

    fewer : (b : ℕ) → length (column ns b) ≤ length (column xs b)
    fewer b =
        ⊎_elim (λ l. omega (
          arith,
          alike_length (column ys b) (column ns b) (once b) (normal_once ns b n) (like b),
          ap length (columns b l),
          reduced_shorter (column xs b),
        ))
        (λ l. omega (arith, ap length (no_high_key ns b n l))) (cases_lt b 21)

-- a normal list that grants what is left of a list is the normal form of that list
pub form_of_reduced : (list xs ns : List Ace) → IsReducedOf list xs → IsNormal ns → SameGrants all_rights xs ns
    → IsNormalFormOf list ns
form_of_reduced list xs ns r normal grants =
    form_from list ns (is_taken list xs ns r.columns r.irreducible r.grants normal grants) r.accepted
