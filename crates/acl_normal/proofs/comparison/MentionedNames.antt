-- The longest name of the principals that lists mention.
use Rattle.acl_normal.proofs.Common.{arith, at_drop_more, drop, length, List, longest, max, principal, principal_name, principals, slice_index_or, ℕ, ◌+◌, ◌<◌, ◌≡◌, ◌≤◌}
use Rattle.std.proofs.lemmas.List.{at_drop_all}
use Rattle.acl_perm.specs.declared.principal.Principal.{Principal as PrincipalRef}

-- the longest of all is the longest so far or of the rest
pub record IsLongest (names : List PrincipalRef) (most i : ℕ) : Type 0 where
  pub is : max most (longest (principals (drop i names))) ≡ longest (principals names)

-- the longer of the next name and the longest so far is the longest so far
pub longest_more : (names : List PrincipalRef) (p : PrincipalRef) (most here new i : ℕ) → i < length names
    → here ≡ length (principal_name (principal (slice_index_or names i p))) → new ≡ max here most
    → IsLongest names most i → IsLongest names new (i + 1)
longest_more names p most here new i lt is new_is h =
    let step : longest (principals (drop i names))
    ≡ max (length (principal_name (principal (slice_index_or names i p))))
    (longest (principals (drop (i + 1) names))) = at_drop_more (λ v. longest (principals v)) names i p lt in
    let whole = h.is in
    record { is = omega arith }

-- after the last name the longest is known
pub longest_all : (names : List PrincipalRef) (most i : ℕ) → length names ≤ i → IsLongest names most i
    → most ≡ longest (principals names)
longest_all names most i le h =
    let none : longest (principals (drop i names)) ≡ 0 = at_drop_all (λ v. longest (principals v)) names i le in
    let whole = h.is in
    omega arith

-- before the first name the longest so far has no byte
pub longest_start : (names : List PrincipalRef) → IsLongest names 0 0
longest_start names = record { is = omega arith }

-- the three steps of the longest name
pub ruleset longest_steps = (longest_start, longest_more, longest_all)
