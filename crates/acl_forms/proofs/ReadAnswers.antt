-- What a call that reads a value answers: the value that is spelled, or the one fault.
use Rattle.std.proofs.Common.{◌≡◌, Result, Ok, Err, inl, inr}
use Rattle.std.specs.Prelude.{◌⊎◌, IfErr, IfOk, MatchResult}
use Rattle.acl_forms.specs.ReadFaults.{no_memory_left}
use Rattle.acl_forms.specs.declared.fault.ReadFault.{ReadFault}

-- the value that is spelled is returned, unless memory runs out
pub only_value : {V : Type 0} (Spells : V → Type 0) (IsFault : ReadFault → Type 0) (result : Result V ReadFault)
    → ((one two : V) → Spells one → Spells two → one ≡ two) → ((v : V) (f : ReadFault) → Spells v → IsFault f → ⊥)
    → IfOk result Spells → IfErr result (λ fault. (fault ≡ no_memory_left) ⊎ IsFault fault)
    → (v : V) → Spells v → MatchResult result (λ read. read ≡ v) (λ fault. fault ≡ no_memory_left)
only_value Spells IsFault (Ok read) one none found wrong v is = one read v found is
only_value Spells IsFault (Err fault) one none found (inl memory) v is = memory
only_value Spells IsFault (Err fault) one none found (inr wrong) v is = absurd (none v fault is wrong)

-- what has a fault is refused with that fault, unless memory runs out
pub only_fault : {V : Type 0} (Spells : V → Type 0) (IsFault : ReadFault → Type 0) (result : Result V ReadFault)
    → ((f g : ReadFault) → IsFault f → IsFault g → f ≡ g) → ((v : V) (f : ReadFault) → Spells v → IsFault f → ⊥)
    → IfOk result Spells → IfErr result (λ fault. (fault ≡ no_memory_left) ⊎ IsFault fault)
    → (f : ReadFault) → IsFault f
    → MatchResult result (λ _. ⊥) (λ fault. (fault ≡ no_memory_left) ⊎ (fault ≡ f))
only_fault Spells IsFault (Ok read) one none found wrong f is = none read f found is
only_fault Spells IsFault (Err fault) one none found (inl memory) f is = inl memory
only_fault Spells IsFault (Err fault) one none found (inr wrong) f is = inr (one fault f wrong is)
