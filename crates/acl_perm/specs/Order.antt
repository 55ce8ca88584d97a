-- The order of principals, and of principals with a kind (this library's own: RFC 8881 has no order). Names are
-- compared byte by byte, and a proper beginning of a name comes before the name.
use Rattle.std.specs.Prelude.{◌≡◌, ◌↔◌, ℕ, List}
use Rattle.std.specs.declared.cmp.Ordering.{Ordering}
use Rattle.std.specs.declared.cmp.Ordering.TheVariants.{Less, Equal}
use Rattle.std.specs.Ordering.{nat_cmp, ordering_then, ordering_reverse}
use Rattle.std.specs.Cmp.Lexicographic.{slice_cmp}
use Rattle.acl_perm.specs.Principal.{Principal, row, principal}
use Rattle.acl_perm.specs.declared.kind.Kind.{Kind}
use Rattle.acl_perm.specs.declared.kind.Kind.TheVariants.{Deny, Allow}
use Rattle.acl_perm.specs.declared.key.Key.{Key as KeyOfCode}

-- `OWNER@`, then users, then `GROUP@`, then groups, then `EVERYONE@`
abbrev pub principal_rank : Principal → ℕ
principal_rank p = (row p).rank

-- the name of a user or of a group; `OWNER@`, `GROUP@` and `EVERYONE@` have no name
abbrev pub principal_name : Principal → List ℕ
principal_name p = (row p).name

-- by rank, and then by the bytes of the name
abbrev pub principal_cmp : Principal → Principal → Ordering
principal_cmp p q =
    ordering_then (nat_cmp (principal_rank p) (principal_rank q))
    (slice_cmp nat_cmp (principal_name p) (principal_name q))

-- DENY, then ALLOW
abbrev pub kind_rank : Kind → ℕ
kind_rank Deny = 0
kind_rank Allow = 1

-- a principal and a kind
pub record Key : Type 0 where
  pub principal : Principal
  pub kind : Kind

-- the principal and the kind that a key of the code holds
abbrev pub key_of : KeyOfCode → Key
key_of k = record { principal = principal k.principal; kind = k.kind }

-- by principal, and then by kind
abbrev pub key_cmp : Key → Key → Ordering
key_cmp k l =
    ordering_then (principal_cmp k.principal l.principal) (nat_cmp (kind_rank k.kind) (kind_rank l.kind))

-- the order is strict and total, and two things are equal in it if and only if they are the same
pub record IsStrictTotalOrder {K : Type 0} (cmp : K → K → Ordering) : Type 0 where
  pub equal : (x y : K) → (cmp x y ≡ Equal) ↔ (x ≡ y)
  pub reversed : (x y : K) → cmp y x ≡ ordering_reverse (cmp x y)
  pub transitive : (x y z : K) → cmp x y ≡ Less → cmp y z ≡ Less → cmp x z ≡ Less
