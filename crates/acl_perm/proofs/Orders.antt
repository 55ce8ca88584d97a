-- The orders of principals and of keys are strict and total, and distinguish all of them.
use Rattle.std.proofs.Common.{◌≡◌, refl, sym, ap, ◌∙◌, arith}
use Rattle.std.specs.Prelude.{Bool, true, ◌&&◌, ◌==◌, ◌↔◌, IsTrue, T}
use Rattle.std.specs.declared.cmp.Ordering.{Ordering}
use Rattle.std.specs.declared.cmp.Ordering.TheVariants.{Less, Equal, Greater}
use Rattle.std.specs.Ordering.{nat_cmp, ordering_reverse, eq_by_cmp, is_eq, is_lt}
use Rattle.std.specs.Cmp.{IsTotalOrder, unsigned_ties, tied_then}
use Rattle.std.specs.Cmp.Lexicographic.{slice_cmp}
use Rattle.std.specs.Str.{bytes_eq}
use Rattle.std.proofs.lemmas.Bool.{eq-eqb}
use Rattle.std.proofs.lemmas.Map.Lookups.{exact_unsigned}
use Rattle.std.proofs.lemmas.Map.Text.{is_eq-slice_cmp}
use Rattle.acl_perm.specs.Principal.{Principal}
use Rattle.acl_perm.specs.Order.{principal_rank, principal_name, principal_cmp, kind_rank, Key, key_cmp, IsStrictTotalOrder}
use Rattle.acl_perm.specs.internal.Totality.{key_total, principal_total}
use Rattle.acl_perm.specs.internal.FedAlike.{then_equal, is_equal}
pub use Rattle.acl_perm.specs.internal.FedAlike.{principal_exact}
use Rattle.acl_perm.specs.Kind.{is_allow}
use Rattle.acl_perm.specs.declared.kind.Kind.{Kind}
use Rattle.acl_perm.specs.declared.kind.Kind.TheVariants.{Deny, Allow}

-- a value that compares as less is less in the order
pub is_less : (o : Ordering) → is_lt o ≡ true → o ≡ Less
is_less Less h = refl
is_less Equal h = absurd cc
is_less Greater h = absurd cc

-- what passes the test for less is less in the order
pub passes_less : (o : Ordering) → T (is_lt o) → o ≡ Less
passes_less Less h = refl
passes_less Equal h = absurd h
passes_less Greater h = absurd h

-- kinds of one rank are the same
pub same_kind : (j k : Kind) → kind_rank j ≡ kind_rank k → j ≡ k
same_kind Deny Deny h = refl
same_kind Allow Allow h = refl
same_kind _ _ h = absurd (omega (arith, h))

-- kinds that both allow, or both deny, are the same
pub kinds_alike : (j k : Kind) → is_allow j ≡ is_allow k → j ≡ k
kinds_alike Deny Deny h = refl
kinds_alike Allow Allow h = refl
kinds_alike Deny Allow h = absurd cc
kinds_alike Allow Deny h = absurd cc

-- keys that compare equal are the same
key_exact : (k l : Key) → key_cmp k l ≡ Equal → k ≡ l
key_exact k l h =
    let parts = then_equal (principal_cmp k.principal l.principal) (nat_cmp (kind_rank k.kind) (kind_rank l.kind)) h in
    let principals = principal_exact k.principal l.principal parts.0 in
    let kinds = same_kind k.kind l.kind (exact_unsigned (kind_rank k.kind) (kind_rank l.kind) parts.1) in
    λ i. record { principal = principals i; kind = kinds i }

-- in a total order, each value is equal to itself
self_equal : {K : Type 0} (cmp : K → K → Ordering) → IsTotalOrder cmp → (x : K) → cmp x x ≡ Equal
self_equal cmp total x = go (cmp x x) (total.antisymm x x)
  where
    go : (o : Ordering) → o ≡ ordering_reverse o → o ≡ Equal
    go Less h = absurd cc
    go Equal h = refl
    go Greater h = absurd cc

-- a total order in which only the same values are equal is strict and total
strict_from_total : {K : Type 0} (cmp : K → K → Ordering) → IsTotalOrder cmp
    → ((x y : K) → cmp x y ≡ Equal → x ≡ y) → IsStrictTotalOrder cmp
strict_from_total cmp total exact = record {
  equal = λ x y. (exact x y, λ e. ap (cmp x) (sym e) ∙ self_equal cmp total x);
  reversed = λ x y. total.antisymm y x;
  transitive = total.trans;
}

-- the order of principals is strict and total
pub principal_order : IsStrictTotalOrder principal_cmp
principal_order = strict_from_total principal_cmp principal_total principal_exact

-- the order of keys is strict and total
pub key_order : IsStrictTotalOrder key_cmp
key_order = strict_from_total key_cmp key_total key_exact

-- ---- what `==` means

-- two principals compare equal if and only if they are the same
pub principals_same : (p q : Principal) → IsTrue (eq_by_cmp principal_cmp p q) ↔ (p ≡ q)
principals_same p q =
    let equal = principal_order.equal p q in
    (λ h. equal.0 (is_equal (principal_cmp p q) h), λ e. ap is_eq (equal.1 e))

-- two principals are the same if they have the same rank and the same name: the test of the code
pub principal_tied : (p q : Principal)
    → ((principal_rank p == principal_rank q) && bytes_eq (principal_name p) (principal_name q))
    ≡ eq_by_cmp principal_cmp p q
principal_tied p q =
    let ranks = nat_cmp (principal_rank p) (principal_rank q) in
    let names = slice_cmp nat_cmp (principal_name p) (principal_name q) in
    ap (λ (b : Bool). b && bytes_eq (principal_name p) (principal_name q))
    (unsigned_ties (principal_rank p) (principal_rank q))
    ∙ ap (λ (b : Bool). is_eq ranks && b) (sym (is_eq-slice_cmp (principal_name p) (principal_name q)))
    ∙ tied_then ranks names

-- two principals with the same rank are the same if and only if their names are
pub tied_names : (p q : Principal) (answer : Bool) → principal_rank p ≡ principal_rank q
    → answer ≡ bytes_eq (principal_name p) (principal_name q) → answer ≡ eq_by_cmp principal_cmp p q
tied_names p q answer r e =
    e
    ∙ ap (λ (b : Bool). b && bytes_eq (principal_name p) (principal_name q)) (sym (eq-eqb _ _ r))
    ∙ principal_tied p q
