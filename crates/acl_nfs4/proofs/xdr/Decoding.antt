-- A value that is read from a source. No byte after the value is taken.
use Rattle.acl_nfs4.proofs.Common.{[], Ace, ap, append-nil, Consumes, Decodes, Err, Fault, FaultsOrFails, inl, inr, IsAtEnd, IsFault, IsOrFails, IsProfile, length, List, None, Ok, Option, Profile, Reason, Result, same_Some, Some, subst, sym, Xdr, ℕ, ◌++◌, ◌∙◌, ◌≡◌, refl, Read, no_memory, ◌⊎◌}
use Rattle.acl_nfs4.proofs.xdr.Resume.{one_spelling}
use Rattle.acl_nfs4.proofs.xdr.OneFault.{value_or_fault}
use Rattle.acl_nfs4.proofs.feed.Pieces.{fault_stays}
use Rattle.acl_nfs4.proofs.feed.Exactly.{same_fault}

-- ---- what the answer says about the whole input

-- a fault that a decoder returns is one of the device, of memory, or of the input
of_input : (p : Profile) (given left : List ℕ) (f : Fault) → Decodes p given (left ≡ []) (Err f)
    → ((f.reason ≡ Read) ⊎ (f ≡ no_memory)) ⊎ IsFault p (given ++ left) f.offset f.reason
of_input p given left f (inl t) =
    inr (rw (ap (λ (x : List ℕ). given ++ x) t.2 ∙ append-nil given, t.0) t.1)
of_input p given left f (inr (inl r)) = inl (inl r.0)
of_input p given left f (inr (inr (inl m))) = inl (inr m)
of_input p given left f (inr (inr (inr l))) = inr (fault_stays p given left f.offset f.reason (length given, l.0) l.1)

-- if the bytes that were taken and left begin with a list, the answer is that list or a fault of device or memory
is_only : (p : Profile) (list : List Ace) (text rest given left : List ℕ) (result : Result (List Ace) Fault)
    → IsProfile p → Xdr p list text → text ++ rest ≡ given ++ left → Decodes p given (left ≡ []) result
    → IsOrFails result list
is_only p list text rest given left (Ok found) ok x e d =
    sym (one_spelling p list found text given rest left ok x d e).0
is_only p list text rest given left (Err f) ok x e d = elim (of_input p given left f d) [
  | inl fails ↦ fails
  | inr g ↦ absurd (value_or_fault p (given ++ left) list text rest f.offset f.reason ok x (sym e) g)
]

-- if the input begins with a list, the answer is that list or a fault of the device or of memory
pub only_that_list : (p : Profile) (old new : Option (List ℕ)) (given : List ℕ) (result : Result (List Ace) Fault)
    → IsProfile p
    → Consumes old new given → Decodes p given (IsAtEnd new) result
    → (list : List Ace) (text rest : List ℕ) → Xdr p list text → old ≡ Some (text ++ rest) → IsOrFails result list
only_that_list p None new given result ok c d list text rest x e = absurd cc
only_that_list p (Some input) None given result ok c d list text rest x e = absurd c
only_that_list p (Some input) (Some left) given result ok c d list text rest x e =
    is_only p list text rest given left result ok x (sym (same_Some _ _ e) ∙ c) d

-- if the bytes that were taken and left have a fault, the answer is that fault or one of the device or of memory
is_refused : (p : Profile) (given left : List ℕ) (result : Result (List Ace) Fault) (o : ℕ) (r : Reason) → IsProfile p
    → Decodes p given (left ≡ []) result → IsFault p (given ++ left) o r
    → FaultsOrFails result (record { offset = o; reason = r })
is_refused p given left (Ok found) o r ok d f = value_or_fault p (given ++ left) found given left o r ok d refl f
is_refused p given left (Err g) o r ok d f = elim (of_input p given left g d) [
  | inl fails ↦ inr fails
  | inr h ↦ inl (same_fault p (given ++ left) g o r ok h f)
]

-- if the input has a fault, the answer is that fault or one of the device or of memory
pub refused_with_that_fault : (p : Profile) (old new : Option (List ℕ)) (given : List ℕ)
    (result : Result (List Ace) Fault)
    → IsProfile p → Consumes old new given → Decodes p given (IsAtEnd new) result
    → (input : List ℕ) (o : ℕ) (r : Reason) → old ≡ Some input → IsFault p input o r
    → FaultsOrFails result (record { offset = o; reason = r })
refused_with_that_fault p None new given result ok c d input o r e f = absurd cc
refused_with_that_fault p (Some known) None given result ok c d input o r e f = absurd c
refused_with_that_fault p (Some known) (Some left) given result ok c d input o r e f =
    is_refused p given left result o r ok d (subst (λ (x : List ℕ). IsFault p x o r) (sym (same_Some _ _ e) ∙ c) f)
