-- The names of a comparison, of an excess or of an implication in a buffer.
use Rattle.std.proofs.Common.{◌≡◌, ◌∙◌, ℕ, Err, List, Ok, Result, ap, inl, inr, length, subst, sym}
use Rattle.std.specs.Prelude.{IfOk}
use Rattle.acl_perm.specs.Profile.{Profile}
use Rattle.acl_nfs4.specs.Ace.{Ace}
use Rattle.aclck_c.specs.Compare.{AreCompared, ComparesAs}
use Rattle.aclck_c.specs.Excess.{AreExcess, ExceedsAs}
use Rattle.aclck_c.specs.Implies.{HasImplication, HasImplicationOf, ImpliesAs}
use Rattle.aclck_c.specs.Out.{WritesBytes}
use Rattle.aclck_c.specs.Requests.{IsRight}
use Rattle.aclck_c.specs.declared.nfs4.compare.RawDifference.{RawDifference}
use Rattle.aclck_c.specs.declared.failure.Failure.{Failure}
use Rattle.aclck_c.specs.declared.out.Made.{Made}
use Rattle.aclck_c.specs.declared.refusal.Refusal.{Refusal}
use Rattle.aclck_c.specs.internal.Endings.{EndsBoth}
use Rattle.aclck_c.proofs.Endings.{fails_without_bytes}

-- the answer of a comparison has the length of the names
names_counted : (list other : List Ace) (at : RawDifference) (names : List ℕ) → ComparesAs list other at names
    → at.names ≡ length names
names_counted list other at names (inl same) = ap (λ d. d.names) same.1 ∙ sym (ap length same.2)
names_counted list other at names (inr first) = ap (λ d. d.names) first.is_at

-- the answer of an excess has the length of the names
excess_counted : (list other : List Ace) (at : RawDifference) (names : List ℕ) → ExceedsAs list other at names
    → at.names ≡ length names
excess_counted list other at names (inl none) = ap (λ d. d.names) none.1 ∙ sym (ap length none.2)
excess_counted list other at names (inr first) = ap (λ d. d.names) first.is_at

-- the answer of an implication has the length of the names
implies_counted : (list : List Ace) (bit others : ℕ) (at : RawDifference) (names : List ℕ)
    → ImpliesAs list bit others at names → at.names ≡ length names
implies_counted list bit others at names (inl all) = ap (λ d. d.names) all.1 ∙ sym (ap length all.2)
implies_counted list bit others at names (inr first) = ap (λ d. d.names) first.is_at

-- the names that a call made are in the buffer, and their number is that of the answer; it is 0 if the call failed
writes_report : (Has Means : RawDifference → List ℕ → Type 0) (made : Result (Made RawDifference ℕ) Failure)
    {at at_after : RawDifference} {buffer buffer_after : List ℕ} {needed needed_after : ℕ}
    {fault fault_after : Refusal} {returned : ℕ}
    → ((d : RawDifference) (names : List ℕ) → Has d names → Means d names)
    → ((d : RawDifference) (names : List ℕ) → Has d names → d.names ≡ length names)
    → at.names ≡ 0 → IfOk made (λ m. Has m.value m.items.items)
    → EndsBoth made at at_after buffer buffer_after needed needed_after fault fault_after returned
    → WritesBytes (Means at_after) buffer buffer_after 0 at_after.names returned
writes_report Has Means (Ok made) {at_after} says counted none has ends =
    let names = made.items.items in
    let has_after = subst (λ (d : RawDifference). Has d names) (sym ends.written) has in
    let means = says at_after names has_after in
    let count = counted at_after names has_after in
    record {
      done = λ is. record { text = names; means = means; puts = ends.put.put is; reported = count };
      short = λ is. record { text = names; means = means; short = ends.put.short is; reported = count };
      unwritten = λ not. elim ends.put.known [
        | inl is ↦ absurd (not is)
        | inr is ↦ ends.put.unwritten is
      ];
      unreported = λ not fits. elim ends.put.known [
        | inl is ↦ absurd (not is)
        | inr is ↦ absurd (fits is)
      ];
    }
writes_report Has Means (Err f) {fault} {fault_after} {returned} says counted none has ends =
    let fails = fails_without_bytes f fault fault_after returned ends.reported in
    record {
      done = λ is. absurd (fails.0 is);
      short = λ is. absurd (fails.1 is);
      unwritten = λ _. ends.unwritten;
      unreported = λ _ _. ap (λ (d : RawDifference). d.names) ends.left ∙ none;
    }

-- the names of a comparison are in the buffer
pub writes_names : {p : Profile} {first second : List ℕ} {made : Result (Made RawDifference ℕ) Failure}
    {at at_after : RawDifference} {buffer buffer_after : List ℕ} {needed needed_after : ℕ}
    {fault fault_after : Refusal} {returned : ℕ} → at.names ≡ 0
    → IfOk made (λ m. AreCompared p first second m.value m.items.items)
    → EndsBoth made at at_after buffer buffer_after needed needed_after fault fault_after returned
    → WritesBytes (AreCompared p first second at_after) buffer buffer_after 0 at_after.names returned
writes_names {p} {first} {second} {made} none compared ends =
    writes_report (AreCompared p first second) (AreCompared p first second) made (λ _ _ c. c)
    (λ d names c. names_counted c.list c.other d names c.compared) none compared ends

-- the names of an excess are in the buffer
pub writes_excess : {p : Profile} {first second : List ℕ} {made : Result (Made RawDifference ℕ) Failure}
    {at at_after : RawDifference} {buffer buffer_after : List ℕ} {needed needed_after : ℕ}
    {fault fault_after : Refusal} {returned : ℕ} → at.names ≡ 0
    → IfOk made (λ m. AreExcess p first second m.value m.items.items)
    → EndsBoth made at at_after buffer buffer_after needed needed_after fault fault_after returned
    → WritesBytes (AreExcess p first second at_after) buffer buffer_after 0 at_after.names returned
writes_excess {p} {first} {second} {made} none exceeds ends =
    writes_report (AreExcess p first second) (AreExcess p first second) made (λ _ _ e. e)
    (λ d names e. excess_counted e.list e.other d names e.exceeds) none exceeds ends

-- the names of an implication are in the buffer
pub writes_implication : {p : Profile} {bytes : List ℕ} {right bit others : ℕ}
    {made : Result (Made RawDifference ℕ) Failure} {at at_after : RawDifference} {buffer buffer_after : List ℕ}
    {needed needed_after : ℕ} {fault fault_after : Refusal} {returned : ℕ} → IsRight right bit → at.names ≡ 0
    → IfOk made (λ m. HasImplication p bytes bit others m.value m.items.items)
    → EndsBoth made at at_after buffer buffer_after needed needed_after fault fault_after returned
    → WritesBytes (HasImplicationOf p bytes right others at_after) buffer buffer_after 0 at_after.names returned
writes_implication {p} {bytes} {right} {bit} {others} {made} is none has ends =
    writes_report (HasImplication p bytes bit others) (HasImplicationOf p bytes right others) made
    (λ _ _ i. record { bit = bit; is_right = is; has = i })
    (λ d names i. implies_counted i.list bit others d names i.implies) none has ends
