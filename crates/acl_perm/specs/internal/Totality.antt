-- Principals and keys are totally ordered (this library's own). The proofs are here because `Ord` of the code cites
-- them, and code can cite only what is in specs/.
use Rattle.std.specs.Cmp.{IsTotalOrder, then_total, on_total, nat_cmp_total}
use Rattle.std.specs.Cmp.Lexicographic.{nat_list_cmp_total}
use Rattle.acl_perm.specs.Order.{Key, key_cmp, kind_rank, principal_cmp, principal_name, principal_rank}

-- principals are totally ordered
pub principal_total : IsTotalOrder principal_cmp
principal_total = then_total (on_total principal_rank nat_cmp_total) (on_total principal_name nat_list_cmp_total)

-- keys are totally ordered
pub key_total : IsTotalOrder key_cmp
key_total =
    then_total (on_total (λ (k : Key). k.principal) principal_total)
    (on_total (λ (k : Key). kind_rank k.kind) nat_cmp_total)
