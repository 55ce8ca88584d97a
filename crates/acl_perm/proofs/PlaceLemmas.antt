-- The first place of a byte, from what the lanes say about the bytes that were loaded.
use Rattle.std.proofs.Common.{◌≡◌, ◌+◌, ◌<◌, ◌≤◌, ℕ, eqb, List, length, sym, arith, inl, inr}
use Rattle.std.proofs.lemmas.Bool.{cases_lt}
use Rattle.std.specs.List.{prefix_len, position_or_len}
use Rattle.std.specs.Prelude.{not}
use Rattle.std.specs.Simd.Lanes.{chunk}
use Rattle.std.proofs.lemmas.Simd.{run_in_chunk_le, run_in_chunk_fails, run_in_chunk_stops}
use Rattle.std.proofs.lemmas.List.Sums.{position_or_len_is}
use Rattle.acl_perm.specs.internal.Places.{IsAbsent, IsPlaceIn}

-- the number of bytes of a load before the first one that is wanted is the place of that byte in the load
pub counted : (wanted : ℕ) (bytes : List ℕ) (at n r : ℕ) → at + n ≤ length bytes
    → r ≡ prefix_len (λ b. not (eqb b wanted)) (chunk at n bytes) → IsPlaceIn wanted bytes at n r
counted wanted bytes at n r inside is = record {
  within = run_in_chunk_le (λ b. eqb b wanted) bytes at n r 0 inside is;
  before = run_in_chunk_fails (λ b. eqb b wanted) bytes at n r 0 inside is;
  found = run_in_chunk_stops (λ b. eqb b wanted) bytes at n r 0 inside is;
}

-- if a byte is neither in a front nor in what follows it, it is not in both together
pub absent_on : (wanted : ℕ) (bytes : List ℕ) (at mid to : ℕ) → IsAbsent wanted bytes 0 mid
    → IsAbsent wanted bytes at to → at ≤ mid → IsAbsent wanted bytes 0 to
absent_on wanted bytes at mid to front rest le = λ k low high. elim (cases_lt k mid) [
  | inl lt ↦ front k low lt
  | inr ge ↦ rest k (omega (arith, ge, le)) high
]

-- a place of the byte is the first one if the byte is not before it
pub first_place : (wanted : ℕ) (bytes : List ℕ) (at n place : ℕ) → IsAbsent wanted bytes 0 at
    → at + n ≤ length bytes → place < n → IsPlaceIn wanted bytes at n place
    → at + place ≡ position_or_len (λ b. eqb b wanted) bytes
first_place wanted bytes at n place front inside lt p = sym (position_or_len_is (λ b. eqb b wanted) bytes (at + place) 0
    (omega (arith, inside, lt))
    (λ k high. absent_on wanted bytes at at (at + place) front p.before (omega arith) k (omega arith) high)
    (λ _. p.found lt))

-- a byte that is not before the last bytes has its first place among them, or has no place
pub last_place : (wanted : ℕ) (bytes : List ℕ) (at mid n place : ℕ) → IsAbsent wanted bytes 0 mid → at ≤ mid
    → at + n ≡ length bytes → IsPlaceIn wanted bytes at n place
    → at + place ≡ position_or_len (λ b. eqb b wanted) bytes
last_place wanted bytes at mid n place front le whole p =
    sym (position_or_len_is (λ b. eqb b wanted) bytes (at + place) 0 (omega (arith, whole, p.within))
    (λ k high. absent_on wanted bytes at mid (at + place) front p.before le k (omega arith) high)
    (λ lt. p.found (omega (arith, whole, lt))))
