-- One bit of a list, as an answer that takes the answer to give if no ACE decides.
use Rattle.std.proofs.Common.{◌≡◌, ℕ, Bool, false, cond, List, [], ◌∷◌, ◌++◌, refl, sym, ap, ◌∙◌}
use Rattle.std.specs.Prelude.{◌&&◌}
use Rattle.acl_perm.specs.Bits.{has_bit}
use Rattle.acl_perm.specs.Situation.{Situation}
use Rattle.acl_nfs4.specs.Ace.{Ace}
use Rattle.acl_eval.specs.Grant.{grants_bit, is_allow}
use Rattle.acl_eval.specs.Scan.{applies}
use Rattle.acl_eval.proofs.Columns.{bit_at_first}

-- the answer of the first ACE that has the bit and matches the requester, or the given answer if there is none
abbrev pub run : List Ace → Situation → ℕ → Bool → Bool
run [] s b r = r
run (a ∷ list) s b r = cond (has_bit a.mask b && applies s a) (is_allow a.kind) (run list s b r)

-- of two lists, the second one answers if the first one does not decide the bit
pub run-append : (xs ys : List Ace) (s : Situation) (b : ℕ) (r : Bool)
    → run (xs ++ ys) s b r ≡ run xs s b (run ys s b r)
run-append [] ys s b r = refl
run-append (a ∷ xs) ys s b r =
    ap (λ (z : Bool). cond (has_bit a.mask b && applies s a) (is_allow a.kind) z) (run-append xs ys s b r)

-- if no ACE decides, the bit is denied
pub run_grants : (list : List Ace) (s : Situation) (b : ℕ) → run list s b false ≡ grants_bit list s b
run_grants [] s b = refl
run_grants (a ∷ list) s b =
    ap (λ (z : Bool). cond (has_bit a.mask b && applies s a) (is_allow a.kind) z) (run_grants list s b)
    ∙ sym (bit_at_first a list s b)
