-- Read, write or execute alone.
use Rattle.std.proofs.Common.{◌≡◌, ℕ, zero, suc, ◌<◌, sym, arith, inl, inr}
use Rattle.std.specs.Prelude.{◌⊎◌}
use Rattle.acl_perm.specs.Bits.{IsPerm}
use Rattle.acl_eval.specs.BridgeLaws.{IsSingle}

-- read is a single permission
pub single_read : (want : ℕ) → want ≡ 4 → IsSingle want
single_read want is = (0, omega arith, sym is)

-- write is a single permission
pub single_write : (want : ℕ) → want ≡ 2 → IsSingle want
single_write want is = (1, omega arith, sym is)

-- execute is a single permission
pub single_execute : (want : ℕ) → want ≡ 1 → IsSingle want
single_execute want is = (2, omega arith, sym is)

-- a single permission is read, write or execute
pub single_cases : (want : ℕ) → IsSingle want → (want ≡ 4) ⊎ ((want ≡ 2) ⊎ (want ≡ 1))
single_cases want (zero, lt, is) = inl (sym is)
single_cases want (suc zero, lt, is) = inr (inl (sym is))
single_cases want (suc (suc zero), lt, is) = inr (inr (sym is))
single_cases want (suc (suc (suc k)), lt, is) = let past : suc (suc (suc k)) < 3 = lt in absurd (omega (arith, past))

-- a single permission is a set
pub single_small : (want : ℕ) → IsSingle want → IsPerm want
single_small want is = elim (single_cases want is) [
  | inl four ↦ omega (arith, four)
  | inr more ↦ elim more [
    | inl two ↦ omega (arith, two)
    | inr one ↦ omega (arith, one)
  ]
]
