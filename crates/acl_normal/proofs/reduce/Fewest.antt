-- No column decides as an irreducible one does and has fewer keys.
use Rattle.acl_normal.proofs.Common.{Column, HasName, HaveNames, IsAlike, IsIrreducible, IsOnce, SameVerdicts, [], arith, default, length, matches, reduced, refl, sym, unshadowed, ◌∙◌, ◌≤◌}
use Rattle.acl_normal.proofs.Each.{from_splits}
use Rattle.acl_normal.proofs.emit.Leaving.{alike_length}
use Rattle.acl_normal.proofs.reduce.Reduced.{reduced_once, reduced_settled, same_reduced}
use Rattle.acl_normal.proofs.reduce.Shorter.{reduced_shorter}
use Rattle.acl_normal.proofs.unique.FirstKind.{clique_of, only_at}
use Rattle.acl_normal.proofs.unique.Named.{irreducible_named}
use Rattle.acl_normal.proofs.unique.SameKeys.{decide_alike}
use Rattle.acl_normal.proofs.unique.Settled.{settled_irreducible}
use Rattle.acl_normal.proofs.unique.Taken.{reduced_within}

-- the reduction of a column with names is irreducible
pub reduced_irreducible : (c : Column) → HaveNames c → IsIrreducible (reduced c)
reduced_irreducible c names =
    settled_irreducible (reduced c) (default (unshadowed [] c)) (reduced_once c)
    (from_splits (λ e. HasName e.0) (reduced c) (λ l e r is.
    let has = reduced_within c e (record { before = l; after = r; is = is }) in
    only_at HasName c has.before has.after e.0 e.1 has.is names)) (reduced_settled c)

-- no column with names that decides as an irreducible one has fewer keys
pub irreducible_fewest : (c d : Column) → IsOnce c → IsIrreducible c → HaveNames d → SameVerdicts c d
    → length c ≤ length d
irreducible_fewest c d once irr names same =
    omega (arith, alike_length c (reduced d) once (reduced_once d) alike, reduced_shorter d)
  where
    irr' : IsIrreducible (reduced d)
    irr' = reduced_irreducible d names

    alike : IsAlike c (reduced d)
    alike =
        decide_alike c (reduced d) irr irr' (irreducible_named c irr) (irreducible_named (reduced d) irr')
        (λ s valid. same s valid ∙ sym (same_reduced (matches s) d (clique_of s) refl))
