-- How many rights the reductions of lists have.
use Rattle.std.specs.Prelude.{count_ones}
use Rattle.std.proofs.lemmas.List.Sums.{sum_by-cons}
use Rattle.acl_nfs4.proofs.Exports.{weight-cons}
use Rattle.acl_eval.specs.Laws.{IsEquivalence}
use Rattle.acl_normal.proofs.Common.{Ace, AceRef, Bool, IsIrreducible, IsReducedOf, List, Mask, SameGrants, [], aces_in, aces_with, all_rights, ap, arith, column, equivalence, false, full, has_bit, left, length, refl, subst, true, weight, ℕ, ◌∷◌, ◌≡◌, ◌≤◌}
use Rattle.acl_normal.specs.internal.Counts.{rights_together}
use Rattle.acl_normal.proofs.emit.Leaving.{column_left, masks_of_quiet}
use Rattle.acl_normal.proofs.reduce.Fewest.{irreducible_fewest}
use Rattle.acl_normal.proofs.reduce.Reducing.{names_kept}
use Rattle.acl_normal.proofs.unique.Accepted.{accepted_names}
use Rattle.acl_normal.proofs.unique.IrreducibleLists.{irreducible_column}
use Rattle.acl_normal.proofs.unique.ListColumns.{names_in_column, same_verdicts}
use Rattle.acl_normal.proofs.unique.Weights.{weight_falls}

-- the masks of a list have together as many rights as the list weighs
weight_of_masks : (aces : List AceRef) (masks : List Mask) → length masks ≡ length aces
    → weight (aces_with aces masks) ≡ rights_together masks
weight_of_masks [] [] h = refl
weight_of_masks [] (m ∷ masks) h = absurd (omega (arith, h))
weight_of_masks (a ∷ aces) [] h = absurd (omega (arith, h))
weight_of_masks (a ∷ aces) (m ∷ masks) h =
    omega (
      arith,
      weight-cons (record { kind = a.kind; flags = a.flags.bits; mask = m.bits; who = a.who.now })
          (aces_with aces masks),
      sum_by-cons (λ (m : Mask). count_ones m.bits) m masks,
      weight_of_masks aces masks (omega (arith, h)),
    )

-- the reduction of a list weighs no more than that of a list that grants the same
reduction_lightest : (xs ys vs ws : List Ace) → IsReducedOf xs vs → IsReducedOf ys ws → SameGrants all_rights xs ys
    → weight vs ≤ weight ws
reduction_lightest xs ys vs ws r s same =
    weight_falls ws vs r.thinned.tidy.quiet (masks_of_quiet vs r.thinned.tidy.quiet r.rights)
    (λ b. fewer b (has_bit all_rights b) refl)
  where
    is : IsEquivalence (SameGrants all_rights)
    is = equivalence all_rights

    both : SameGrants all_rights vs ws
    both = is.transitive vs xs ws (is.symmetric xs vs r.grants) (is.transitive xs ys ws same s.grants)

    fewer : (b : ℕ) (t : Bool) → has_bit all_rights b ≡ t → length (column vs b) ≤ length (column ws b)
    fewer b true e =
        irreducible_fewest (column vs b) (column ws b) (r.thinned.tidy.once b)
        (subst IsIrreducible (column_left b vs) (irreducible_column (left vs) b r.irreducible))
        (names_in_column b ws (names_kept ys ws s.thinned.outline (accepted_names full ys s.accepted)))
        (same_verdicts vs ws both b e)
    fewer b false e = omega (arith, ap length (r.rights b e))

-- the reductions of two lists that grant the same have as many rights
pub as_many_rights : (list other : List AceRef) (masks others : List Mask) → length masks ≡ length list
    → length others ≡ length other → IsReducedOf (aces_in list) (aces_with list masks)
    → IsReducedOf (aces_in other) (aces_with other others) → SameGrants all_rights (aces_in list) (aces_in other)
    → rights_together masks ≡ rights_together others
as_many_rights list other masks others count counts r s same =
    omega (
      arith,
      weight_of_masks list masks count,
      weight_of_masks other others counts,
      reduction_lightest (aces_in list) (aces_in other) (aces_with list masks) (aces_with other others) r s same,
      reduction_lightest (aces_in other) (aces_in list) (aces_with other others) (aces_with list masks) s r
          ((equivalence all_rights).symmetric (aces_in list) (aces_in other) same),
    )
