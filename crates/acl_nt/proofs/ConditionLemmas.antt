-- The first fault of conditions after others.
use Rattle.std.proofs.Common.{◌≡◌, ◌∙◌, ◌++◌, ℕ, Bool, true, false, List, [], ◌∷◌, Option, None, Some, Result, Ok, Err, ap, arith, inl, inr, refl}
use Rattle.std.specs.Prelude.{IsTrue, if◌then◌else◌}
use Rattle.std.specs.Result.{IsErrAnd}
use Rattle.acl_nt.specs.Conditions.{AreMet, Condition, FailsUnder, ReadsUnder, check, first_unmet}
use Rattle.acl_nt.specs.Faults.{nt_fault_at}
use Rattle.acl_nt.specs.declared.fault.NtFault.{NtFault}
use Rattle.acl_nt.specs.declared.fault.NtReason.{NtReason}

-- a condition that is met has no fault
met_after : (h : Bool) (f : NtFault) (a b r : Option NtFault) → (a ≡ None → b ≡ r)
    → (if h then a else Some f) ≡ None → (if h then b else Some f) ≡ r
met_after true f a b r next e = next e
met_after false f a b r next e = grind arith

-- if these conditions are met, the first fault is that of the conditions after them
pub fault_after : (xs ys : List Condition) → first_unmet xs ≡ None → first_unmet (xs ++ ys) ≡ first_unmet ys
fault_after [] ys e = refl
fault_after (c ∷ xs) ys e = met_after c.holds c.fault (first_unmet xs) (first_unmet (xs ++ ys)) (first_unmet ys)
    (fault_after xs ys) e

unmet_before : (h : Bool) (f g : NtFault) (a b : Option NtFault) → (a ≡ Some g → b ≡ Some g)
    → (if h then a else Some f) ≡ Some g → (if h then b else Some f) ≡ Some g
unmet_before true f g a b next e = next e
unmet_before false f g a b next e = e

-- the first fault of these conditions comes before the conditions after them
pub fault_before : (xs ys : List Condition) (g : NtFault) → first_unmet xs ≡ Some g → first_unmet (xs ++ ys) ≡ Some g
fault_before [] ys g e = grind arith
fault_before (c ∷ xs) ys g e = unmet_before c.holds c.fault g (first_unmet xs) (first_unmet (xs ++ ys))
    (fault_before xs ys g) e

met_here : (h : Bool) (f : NtFault) (a : Option NtFault) (All : Type 0) → (a ≡ None → All)
    → (if h then a else Some f) ≡ None → IsTrue h × All
met_here true f a All next e = (refl, next e)
met_here false f a All next e = grind arith

-- conditions without a fault are met
pub none_met : (xs : List Condition) → first_unmet xs ≡ None → AreMet xs
none_met [] e = tt
none_met (c ∷ xs) e = met_here c.holds c.fault (first_unmet xs) (AreMet xs) (none_met xs) e

none_here : (h : Bool) (f : NtFault) (a : Option NtFault) → IsTrue h → a ≡ None → (if h then a else Some f) ≡ None
none_here true f a is e = e
none_here false f a is e = grind arith

-- conditions that are met have no fault
pub met_none : (xs : List Condition) → AreMet xs → first_unmet xs ≡ None
met_none [] met = refl
met_none (c ∷ xs) met = none_here c.holds c.fault (first_unmet xs) met.0 (met_none xs met.1)

-- a fault of conditions that come after others, which are met
pub fails_after : (f : NtFault) (xs ys : List Condition) → first_unmet xs ≡ None → FailsUnder f ys
    → FailsUnder f (xs ++ ys)
fails_after f xs ys e (inl memory) = inl memory
fails_after f xs ys e (inr fault) = inr (fault_after xs ys e ∙ fault)

-- a fault of conditions that come before others
pub fails_before : (f : NtFault) (xs ys : List Condition) → FailsUnder f xs → FailsUnder f (xs ++ ys)
fails_before f xs ys (inl memory) = inl memory
fails_before f xs ys (inr fault) = inr (fault_before xs ys f fault)

-- a fault of conditions that have the first fault of others
pub fails_same : (f : NtFault) (xs ys : List Condition) → first_unmet xs ≡ first_unmet ys → FailsUnder f ys
    → FailsUnder f xs
fails_same f xs ys e (inl memory) = inl memory
fails_same f xs ys e (inr fault) = inr (e ∙ fault)

-- the fault of one more condition, which is not met
pub last_unmet : (xs : List Condition) (holds : Bool) (at : ℕ) (reason : NtReason) → first_unmet xs ≡ None
    → holds ≡ false → first_unmet (xs ++ check holds at reason ∷ []) ≡ Some (nt_fault_at at reason)
last_unmet xs holds at reason none e = fault_after xs (check holds at reason ∷ []) none ∙ rw e refl

-- with one more condition that is met there is no fault
pub last_met : (xs : List Condition) (holds : Bool) (at : ℕ) (reason : NtReason) → first_unmet xs ≡ None
    → holds ≡ true → first_unmet (xs ++ check holds at reason ∷ []) ≡ None
last_met xs holds at reason none e = fault_after xs (check holds at reason ∷ []) none ∙ rw e refl

-- what is read after conditions that are met
pub reads_after : {X Y : Type 0} (view : X → Y) (r : Result X NtFault) (xs ys : List Condition) (value : Y)
    → first_unmet xs ≡ None → ReadsUnder view r ys value → ReadsUnder view r (xs ++ ys) value
reads_after view (Ok x) xs ys value e reads = (fault_after xs ys e ∙ reads.0, reads.1)
reads_after view (Err f) xs ys value e reads = fails_after f xs ys e reads

-- the result of a `?` is the error that the conversion gives
pub exit_is : {T E : Type 0} {e : E} (r : Result T E) → IsErrAnd r (λ y. y ≡ e) → r ≡ Err e
exit_is (Ok x) is = absurd is
exit_is (Err y) is = ap (λ z. Err z) is
