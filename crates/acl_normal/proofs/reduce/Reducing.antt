-- A list with reduced columns is irreducible and grants the same.
use Rattle.acl_normal.proofs.Common.{[], Ace, all_rights, ap, arith, cases_lt, column, default, false, full, has_bit, HasMasks, HasNames, HasNoEmptyMask, IsAccepted, IsIrreducible, IsIrreducibleList, IsNormal, IsTidy, left, List, matches, needed_keys, nothing_left, reduced, refl, SameGrants, subst, sym, unshadowed, verdict, ℕ, ⊎_elim, ◌<◌, ◌∙◌, ◌∷◌, ◌≡◌, equivalence}
use Rattle.acl_normal.specs.internal.Reduced.{IsReducedOf, IsThinned}
use Rattle.acl_normal.proofs.unique.Accepted.{accepted_masks, accepted_names}
use Rattle.acl_normal.proofs.unique.ListColumns.{names_in_column, same_grants_from_columns}
use Rattle.acl_normal.proofs.unique.FirstKind.{clique_of}
use Rattle.acl_normal.proofs.unique.Normal.{irreducible_list}
use Rattle.acl_normal.proofs.reduce.Reduced.{same_reduced, reduced_settled}
use Rattle.acl_normal.proofs.unique.Settled.{IsSettled, settled_irreducible}
use Rattle.acl_normal.proofs.unique.Unique.{normal_unique}
use Rattle.acl_normal.proofs.emit.Leaving.{column_left, masks_of_quiet, quiet_left}
use Rattle.acl_normal.proofs.unique.Columns.{column_first}
use Rattle.acl_normal.proofs.unique.Bits.{below}

-- the first pass and then the second one reduce the column of each right
pub both_passes_reduce : (xs ys zs : List Ace) → ((b : ℕ) → b < 21 → column ys b ≡ unshadowed [] (column xs b))
    → ((b : ℕ) → b < 21 → column zs b ≡ needed_keys (default (column ys b)) (column ys b)) → (b : ℕ) → b < 21
    → column zs b ≡ reduced (column xs b)
both_passes_reduce xs ys zs f g b h = g b h ∙ ap (λ c. needed_keys (default c) c) (f b h)

-- ---- what the outline keeps

-- the outline of a list with names has names
names_on : (xs : List Ace) → HasNames xs → HasNames (nothing_left xs)
names_on [] h = tt
names_on (a ∷ xs) h = (h.0, names_on xs h.1)

-- a list whose outline has names has names
names_back : (xs : List Ace) → HasNames (nothing_left xs) → HasNames xs
names_back [] h = tt
names_back (a ∷ xs) h = (h.0, names_back xs h.1)

-- a list with the outline of a list with names has names
pub names_kept : (xs ys : List Ace) → nothing_left ys ≡ nothing_left xs → HasNames xs → HasNames ys
names_kept xs ys e h = names_back ys (subst HasNames (sym e) (names_on xs h))

-- ---- no bit outside the sixteen

-- a bit that is no right has an empty column
pub no_column : (b : ℕ) (xs : List Ace) → HasMasks xs → has_bit all_rights b ≡ false → column xs b ≡ []
no_column b [] h out = refl
no_column b (a ∷ xs) h out = grind (arith, no_column b xs h.1 out, h.0 b, column_first b a xs)

-- ---- without the empty keys

-- what is left of a list has no empty mask
full_left : (xs : List Ace) → HasNoEmptyMask (left xs)
full_left [] = tt
full_left (a ∷ xs) = grind (arith, full_left xs)

-- ---- a list with reduced columns

-- the empty column is irreducible
nothing_irreducible : IsIrreducible []
nothing_irreducible [] e after is same = cc
nothing_irreducible (f ∷ before) e after is same = cc

-- a list with the outline of its source, and with each column reduced
pub record IsReduction (xs ys : List Ace) : Type 0 where
  pub outline : nothing_left ys ≡ nothing_left xs
  pub columns : (b : ℕ) → b < 21 → column ys b ≡ reduced (column xs b)
  pub names : HasNames xs
  pub masks : HasMasks xs
  pub tidy : IsTidy ys

-- the two passes over an accepted list make a reduction
pub two_passes : (xs ys zs : List Ace) → IsAccepted full xs → nothing_left ys ≡ nothing_left xs
    → ((b : ℕ) → column ys b ≡ unshadowed [] (column xs b)) → nothing_left zs ≡ nothing_left ys → IsTidy zs
    → ((b : ℕ) → b < 21 → column zs b ≡ needed_keys (default (column ys b)) (column ys b)) → IsReduction xs zs
two_passes xs ys zs accepted e f g tidy h = record {
  outline = g ∙ e;
  columns = both_passes_reduce xs ys zs (λ b l. f b) h;
  names = accepted_names full xs accepted;
  masks = accepted_masks xs accepted;
  tidy = tidy;
}

-- a reduction has no bit that is not a right
pub reduction_rights : (xs ys : List Ace) → IsReduction xs ys → (b : ℕ) → has_bit all_rights b ≡ false
    → column ys b ≡ []
reduction_rights xs ys r b out =
    ⊎_elim (λ l. r.columns b l ∙ ap reduced (no_column b xs r.masks out)) (λ l. r.tidy.low b l) (cases_lt b 21)

-- a reduction without its empty ACEs is irreducible
pub reduction_irreducible : (xs ys : List Ace) → IsReduction xs ys → IsIrreducibleList (left ys)
reduction_irreducible xs ys r =
    irreducible_list (left ys) (full_left ys)
    (masks_of_quiet (left ys) (quiet_left ys r.tidy.quiet) (λ b out. column_left b ys ∙ reduction_rights xs ys r b out))
    (quiet_left ys r.tidy.quiet)
    (λ b. subst IsIrreducible (sym (column_left b ys)) (irr b))
  where
    irr : (b : ℕ) → IsIrreducible (column ys b)
    irr b = ⊎_elim
        (λ l. settled_irreducible (column ys b) (default (unshadowed [] (column xs b))) (r.tidy.once b)
        (names_in_column b ys (names_kept xs ys r.outline r.names))
        (subst (λ c. IsSettled c (default (unshadowed [] (column xs b)))) (sym (r.columns b l))
        (reduced_settled (column xs b))))
        (λ l. subst IsIrreducible (sym (r.tidy.low b l)) nothing_irreducible)
        (cases_lt b 21)

-- a list with reduced columns grants the same
pub reduction_grants : (xs ys : List Ace) → ((b : ℕ) → b < 21 → column ys b ≡ reduced (column xs b))
    → SameGrants all_rights xs ys
reduction_grants xs ys columns = same_grants_from_columns xs ys (λ b inside s valid.
    sym (same_reduced (matches s) (column xs b) (clique_of s) refl)
    ∙ ap (verdict (matches s)) (sym (columns b (below b inside))))

-- the two passes leave the source without the rights that no situation needs
pub reduced_in_two : (xs ys zs : List Ace) → IsAccepted full xs → IsThinned xs ys
    → ((b : ℕ) → column ys b ≡ unshadowed [] (column xs b)) → IsThinned ys zs
    → ((b : ℕ) → b < 21 → column zs b ≡ needed_keys (default (column ys b)) (column ys b)) → IsReducedOf xs zs
reduced_in_two xs ys zs accepted first f second g =
    let r = two_passes xs ys zs accepted first.outline f second.outline second.tidy g in record {
      accepted = accepted;
      thinned = record {
        outline = r.outline;
        tidy = r.tidy;
        firsts = λ b p k i h. first.firsts b p k i (second.firsts b p k i h);
      };
      rights = reduction_rights xs zs r;
      columns = r.columns;
      grants = reduction_grants xs zs r.columns;
      irreducible = reduction_irreducible xs zs r;
    }

-- ---- the normal form is the only normal list with the grants

-- the normal form is the only normal list that grants the same
pub only_one : (xs ns ms : List Ace) → IsNormal ns → SameGrants all_rights xs ns → IsNormal ms
    → SameGrants all_rights xs ms → ms ≡ ns
only_one xs ns ms n f m g =
    normal_unique ms ns m n
    ((equivalence all_rights).transitive ms xs ns ((equivalence all_rights).symmetric xs ms g) f)
