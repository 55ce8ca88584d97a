-- Principals that compare equal are fed alike to a hasher (this library's own). The proof is here because `Hash` of the
-- code cites it, and code can cite only what is in specs/.
use Rattle.std.proofs.Common.{◌≡◌, refl, ap, arith}
use Rattle.std.specs.Prelude.{true}
use Rattle.std.specs.declared.cmp.Ordering.{Ordering}
use Rattle.std.specs.declared.cmp.Ordering.TheVariants.{Less, Equal, Greater}
use Rattle.std.specs.Ordering.{nat_cmp, ordering_then, eq_by_cmp, is_eq}
use Rattle.std.specs.Cmp.Lexicographic.{slice_cmp}
use Rattle.std.specs.Hash.{Alike}
use Rattle.std.proofs.lemmas.Map.Lookups.{exact_unsigned, exact_bytes}
use Rattle.acl_perm.specs.Principal.{Principal, owner, user, group, group_named, everyone}
use Rattle.acl_perm.specs.Order.{principal_rank, principal_name, principal_cmp}
use Rattle.acl_perm.specs.Hashing.{principal_writes}

-- things that are equal in two orders, one used after the other, are equal in each of them
pub then_equal : (a b : Ordering) → ordering_then a b ≡ Equal → (a ≡ Equal) × (b ≡ Equal)
then_equal Less b h = absurd cc
then_equal Equal b h = (refl, h)
then_equal Greater b h = absurd cc

-- a rank and a name are of one principal
same_principal : (p q : Principal) → principal_rank p ≡ principal_rank q → principal_name p ≡ principal_name q → p ≡ q
same_principal owner owner r n = refl
same_principal (user a) (user b) r n = ap user n
same_principal group group r n = refl
same_principal (group_named a) (group_named b) r n = ap group_named n
same_principal everyone everyone r n = refl
same_principal _ _ r n = absurd (omega (arith, r))

-- principals that compare equal are the same
pub principal_exact : (p q : Principal) → principal_cmp p q ≡ Equal → p ≡ q
principal_exact p q h =
    let ranks = nat_cmp (principal_rank p) (principal_rank q) in
    let parts = then_equal ranks (slice_cmp nat_cmp (principal_name p) (principal_name q)) h in
    same_principal p q (exact_unsigned (principal_rank p) (principal_rank q) parts.0)
    (exact_bytes (principal_name p) (principal_name q) parts.1)

-- what counts as equal in an order is equal there
pub is_equal : (o : Ordering) → is_eq o ≡ true → o ≡ Equal
is_equal Less h = absurd cc
is_equal Equal h = refl
is_equal Greater h = absurd cc

-- principals that compare equal are fed alike to a hasher
pub principal_alike : Alike (eq_by_cmp principal_cmp) principal_writes
principal_alike = record { fed = λ p q h. ap principal_writes (principal_exact p q (is_equal (principal_cmp p q) h)) }
