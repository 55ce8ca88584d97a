-- Rows of principals by counting (this library's own).
use Rattle.std.specs.Prelude.{ℕ, suc, cond, List, [], ◌∷◌, map}
use Rattle.std.specs.Ordering.{is_lt}
use Rattle.acl_perm.specs.Order.{principal_cmp}
use Rattle.acl_perm.specs.Principal.{Principal, principal}
use Rattle.acl_normal.specs.declared.rows.heads.HeadedPrincipal.{HeadedPrincipal}

-- the principals that have these heads
abbrev pub headed_names : List HeadedPrincipal → List Principal
headed_names = map (λ h. principal h.principal)

-- how many of the principals are below one
abbrev pub count_below : Principal → List Principal → ℕ
count_below p [] = 0
count_below p (q ∷ qs) = cond (is_lt (principal_cmp q p)) (suc (count_below p qs)) (count_below p qs)
