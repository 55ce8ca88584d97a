-- Pairs of a kind and a place.
use Rattle.acl_normal.proofs.Common.{ap, Kind, Option, Some, unwrap_or, ℕ, ◌≡◌}

-- the parts of equal pairs
pub some_pair : (l j : Kind) (x y : ℕ) → ◌≡◌ {A = Option (Kind × ℕ)} (Some (l, x)) (Some (j, y)) → (l ≡ j) × (x ≡ y)
some_pair l j x y h =
    (ap (λ (o : Option (Kind × ℕ)). (unwrap_or o (l, x)).0) h, ap (λ (o : Option (Kind × ℕ)). (unwrap_or o (l, x)).1) h)
