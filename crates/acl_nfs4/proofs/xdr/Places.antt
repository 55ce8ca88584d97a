-- Where the faults of bytes are: in the bytes or at their end.
use Rattle.acl_nfs4.proofs.Common.{ap, arith, behind, Breaks, Fault, inl, inr, IsFault, IsFirstFault, IsWholeFault, length, length-append, List, of_value, Profile, Reason, RefusesStream, Stage, ℕ, ◌≤◌}

-- the bytes that are taken when a fault is known are bytes of the rest
breaks_in : (p : Profile) (s : Stage) (rest : List ℕ) (n : ℕ) (r : Reason) → Breaks p s rest n r → n ≤ length rest
breaks_in p s rest n r (inl h) = omega (arith, h.1)
breaks_in p s rest n r (inr h) = omega (arith, h.0, h.1)

-- a fault is not behind the bytes that are taken, and these are bytes of the input
pub first_fault_in : (p : Profile) (bytes : List ℕ) (offset taken : ℕ) (r : Reason)
    → IsFirstFault p bytes offset taken r → (offset ≤ taken) × (taken ≤ length bytes)
first_fault_in p bytes offset taken r h =
    let most = breaks_in p h.stage h.rest h.more r h.breaks in
    (omega (arith, h.ends), omega (arith, most, h.ends, h.here, ap length h.parts, length-append h.front h.rest))

-- a fault of bytes is in the bytes or at their end
pub fault_in : (p : Profile) (bytes : List ℕ) (offset : ℕ) (r : Reason) → IsFault p bytes offset r
    → offset ≤ length bytes
fault_in p bytes offset r h =
    let places = first_fault_in p bytes offset h.0 r h.1 in omega (arith, places.0, places.1)

-- so is a fault of bytes that should be one list and nothing more
pub whole_fault_in : (p : Profile) (bytes : List ℕ) (offset : ℕ) (r : Reason) → IsWholeFault p bytes offset r
    → offset ≤ length bytes
whole_fault_in p bytes _ _ (of_value offset r h) = fault_in p bytes offset r h
whole_fault_in p bytes _ _ (behind list text rest x parts some) =
    omega (arith, ap length parts, length-append text rest)

-- so is the fault with which a stream is refused
pub refusal_in : (p : Profile) (text : List ℕ) (f : Fault) → RefusesStream p text f → f.offset ≤ length text
refusal_in p text f (inl same) = rw same (omega arith)
refusal_in p text f (inr h) = fault_in p text f.offset f.reason h.0
