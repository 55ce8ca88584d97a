-- The plain reduction takes keys away.
use Rattle.std.proofs.Common.{◌≤◌, [], ◌∷◌, ◌++◌, length}
use Rattle.acl_normal.proofs.Common.{arith, Column, default, Kind, needed_keys, reduced, unshadowed}

-- a column has no more unshadowed keys than keys
unshadowed_shorter : (before c : Column) → length (unshadowed before c) ≤ length c
unshadowed_shorter before [] = omega arith
unshadowed_shorter before ((p, k) ∷ c) = grind (arith, unshadowed_shorter (before ++ (p, k) ∷ []) c)

-- a column has no more needed keys than keys
needed_shorter : (d : Kind) (c : Column) → length (needed_keys d c) ≤ length c
needed_shorter d [] = omega arith
needed_shorter d ((p, k) ∷ c) = grind (arith, needed_shorter d c)

-- a reduced column has no more keys than the column
pub reduced_shorter : (c : Column) → length (reduced c) ≤ length c
reduced_shorter c =
    omega (arith, needed_shorter (default (unshadowed [] c)) (unshadowed [] c), unshadowed_shorter [] c)
