-- How the text of FreeBSD and archives is written.
use Rattle.std.proofs.Common.{◌≡◌, ◌≤◌, ℕ, List, [], ◌∷◌, ◌++◌, length, Some, ap, arith, append_assoc}
use Rattle.std.proofs.lemmas.Fmt.{length-decimal-le}
use Rattle.acl_forms.specs.Acl41Ids.{id_of_digits}
use Rattle.acl_forms.proofs.WhoLemmas.{id_is}

-- the digits of an id are ten at most
pub digits_short : (who : List ℕ) (n : ℕ) → id_of_digits who ≡ Some n → length who ≤ 10
digits_short who n e =
    let h = id_is who n e in
    let len = length-decimal-le 10 n (omega arith) (omega (arith, h.1)) (omega (arith, h.1)) in
    omega (arith, ap length h.0, len)

-- the pieces of an entry, one after the other
pub joined : (old principal mask flags kind id : List ℕ) → (((((((old ++ principal) ++ 0x3a ∷ []) ++ mask)
    ++ 0x3a ∷ []) ++ flags) ++ 0x3a ∷ []) ++ kind) ++ id
    ≡ old ++ (principal ++ 0x3a ∷ (mask ++ 0x3a ∷ (flags ++ 0x3a ∷ (kind ++ id))))
joined old principal mask flags kind id = simp append_assoc
