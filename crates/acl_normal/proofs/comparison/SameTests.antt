-- The test whether two principals are the same.
use Rattle.acl_normal.proofs.Common.{Bool, IsTrue, Principal, principal_eq, subst, true, ◌↔◌, ◌≡◌, same_answers}
use Rattle.acl_normal.proofs.unique.Names.{principal_eq_itself, principal_eq_same}

-- an answer that is true if and only if two principals are the same is the test of that
pub same_test : (p q : Principal) (answer : Bool) → IsTrue answer ↔ (p ≡ q) → answer ≡ principal_eq p q
same_test p q answer h = same_answers answer (principal_eq p q)
    (λ e. subst (λ v. principal_eq p v ≡ true) (h.0 e) (principal_eq_itself p))
    (λ e. h.1 (principal_eq_same p q e))
