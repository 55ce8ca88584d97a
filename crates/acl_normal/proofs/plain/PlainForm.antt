-- What is emitted from the plain reduction of a list is its normal form.
use Rattle.std.proofs.Common.{List, [], false, length, refl, true, ℕ, ◌≡◌, ◌≤◌, Bool}
use Rattle.acl_normal.proofs.Common.{Ace, ColumnKey, Has, HasMasks, HasOnceColumns, HaveNames, IsAccepted, IsAlike, IsEmission, IsIrreducible, IsIrreducibleList, IsNormal, IsNormalFormOf, IsOnce, SameGrants, all_rights, ap, arith, column, Deny, equivalence, full, has_bit, left, matches, reduced, subst, sym, unwrap_or, ◌∙◌}
use Rattle.acl_normal.proofs.emit.Leaving.{alike_nothing, column_left, left_normal, masks_of_quiet}
use Rattle.acl_normal.proofs.reduce.Fewest.{irreducible_fewest, reduced_irreducible}
use Rattle.acl_normal.proofs.reduce.Reduced.{reduced_once, same_reduced}
use Rattle.acl_normal.proofs.reduce.Reducing.{no_column}
use Rattle.acl_normal.proofs.unique.Accepted.{accepted_masks, accepted_names}
use Rattle.acl_normal.proofs.unique.FirstKind.{alike_agree, clique_of}
use Rattle.acl_normal.proofs.unique.Forming.{form_from}
use Rattle.acl_normal.proofs.unique.Free.{once_from_clean}
use Rattle.acl_normal.proofs.unique.Invariant.{irreducible_alike}
use Rattle.acl_normal.proofs.unique.Irreducible.{irreducible_clean}
use Rattle.acl_normal.proofs.unique.IrreducibleLists.{irreducible_column, no_other_bits}
use Rattle.acl_normal.proofs.unique.ListColumns.{names_in_column, same_grants_from_columns, same_verdicts}
use Rattle.acl_normal.proofs.unique.Named.{irreducible_named}
use Rattle.acl_normal.proofs.unique.Names.{overlaps_itself}
use Rattle.acl_normal.proofs.unique.Normal.{irreducible_list, quiet_flags}
use Rattle.acl_normal.proofs.unique.SameKeys.{decide_alike}
use Rattle.acl_normal.proofs.unique.SameOrder.{has_once, once_has}
use Rattle.acl_normal.proofs.unique.Taken.{no_key, normal_once, reduced_within}
use Rattle.acl_normal.proofs.unique.Weights.{weight_falls}

-- the columns of an accepted list have names
names_of : (source : List Ace) → IsAccepted full source → (b : ℕ) → HaveNames (column source b)
names_of source accepted b = names_in_column b source (accepted_names full source accepted)

-- ---- a normal list that grants the same

-- for a normal list that grants the same as its source
module _ (source ns : List Ace) (accepted : IsAccepted full source) (n : IsNormal ns)
    (grants : SameGrants all_rights source ns) where
  -- its columns are alike the reduced columns of the source
  like : (b : ℕ) → has_bit all_rights b ≡ true → IsAlike (reduced (column source b)) (column ns b)
  like b inside =
      let own = irreducible_column ns b n.irreducible in
      let other = reduced_irreducible (column source b) (names_of source accepted b) in
      decide_alike (reduced (column source b)) (column ns b) other own
      (irreducible_named (reduced (column source b)) other) (irreducible_named (column ns b) own)
      (λ s valid. same_reduced (matches s) (column source b) (clique_of s) refl
      ∙ same_verdicts source ns grants b inside s valid)

  -- it has no more keys than the source
  fewer : (b : ℕ) → (t : Bool) → has_bit all_rights b ≡ t → length (column ns b) ≤ length (column source b)
  fewer b true inside =
      irreducible_fewest (column ns b) (column source b) (normal_once ns b n)
      (irreducible_column ns b n.irreducible) (names_of source accepted b)
      (λ s valid. sym (same_verdicts source ns grants b inside s valid))
  fewer b false out = omega (arith, ap length (no_other_bits ns b n.irreducible out))

  -- its keys are keys of the source
  comes : (b : ℕ) (e : ColumnKey) → Has (column ns b) e → (t : Bool) → has_bit all_rights b ≡ t
      → Has (column source b) e
  comes b (p, k) h true inside =
      reduced_within (column source b) (p, k)
      (has_once (reduced (column source b)) p k
      (like b inside p p (overlaps_itself p) ∙ once_has (column ns b) p k (normal_once ns b n) h))
  comes b e h false out = no_key e (subst (λ c. Has c e) (no_other_bits ns b n.irreducible out) h)

  -- it is the normal form of the source
  pub form_of_normal : IsNormalFormOf source ns
  form_of_normal =
      form_from source ns (record {
        normal = n;
        grants = grants;
        lighter = weight_falls source ns (quiet_flags ns n.flags)
            (masks_of_quiet ns (quiet_flags ns n.flags) (λ b out. no_other_bits ns b n.irreducible out))
            (λ b. fewer b (has_bit all_rights b) refl);
        comes = λ b e h. comes b e h (has_bit all_rights b) refl;
      }) accepted

-- ---- a list with reduced columns

-- a list with reduced columns has each principal at most once at each bit
pub reduced_columns : (source needed : List Ace) → ((b : ℕ) → column needed b ≡ reduced (column source b))
    → HasOnceColumns needed
reduced_columns source needed columns b = subst IsOnce (sym (columns b)) (reduced_once (column source b))

-- what is emitted from a list with the reduced columns of an accepted list is the normal form of that list
pub reduced_form : (source needed ns : List Ace) → IsAccepted full source
    → ((b : ℕ) → column needed b ≡ reduced (column source b)) → IsEmission needed ns → IsNormalFormOf source ns
reduced_form source needed ns accepted columns e = form_of_normal source ns accepted (record {
  irreducible = irreducible_list ns e.masks masks (quiet_flags ns e.flags) irr;
  ordered = e.ordered;
  flags = e.flags;
}) grants
  where
    alike : (b : ℕ) → IsAlike (reduced (column source b)) (column ns b)
    alike b = subst (λ c. IsAlike c (column ns b)) (columns b) (e.alike b)

    irr : (b : ℕ) → IsIrreducible (column ns b)
    irr b =
        irreducible_alike (reduced (column source b)) (column ns b)
        (reduced_irreducible (column source b) (names_of source accepted b)) (alike b) (e.once b)

    nothing : (b : ℕ) → has_bit all_rights b ≡ false → reduced (column source b) ≡ []
    nothing b out = ap reduced (no_column b source (accepted_masks source accepted) out)

    masks : HasMasks ns
    masks =
        masks_of_quiet ns (quiet_flags ns e.flags)
        (λ b out. alike_nothing (column ns b) (subst (λ c. IsAlike c (column ns b)) (nothing b out) (alike b)))

    grants : SameGrants all_rights source ns
    grants =
        same_grants_from_columns source ns
        (λ b inside s valid. sym (same_reduced (matches s) (column source b) (clique_of s) refl)
        ∙ ap (λ o. unwrap_or o Deny)
        (alike_agree (matches s) (reduced (column source b)) (column ns b) (clique_of s) (alike b)))

-- ---- an irreducible list

-- a list that is irreducible without its empty ACEs has each principal at most once at each bit
pub irreducible_once : (xs : List Ace) → IsIrreducibleList (left xs) → HasOnceColumns xs
irreducible_once xs irr b =
    subst IsOnce (column_left b xs)
    (once_from_clean (column (left xs) b)
    (irreducible_clean (column (left xs) b) (irreducible_column (left xs) b irr)))

-- what is emitted from an irreducible list with the grants of an accepted one is the normal form of that one
pub irreducible_form : (source xs ns : List Ace) → IsAccepted full source → IsIrreducibleList (left xs)
    → SameGrants all_rights source xs → IsEmission xs ns → IsNormalFormOf source ns
irreducible_form source xs ns accepted irr same e =
    let both = left_normal xs ns irr e in
    form_of_normal source ns accepted both.0 ((equivalence all_rights).transitive source xs ns same both.1)
