use Rattle.acl_nfs4.proofs.Common.{ap, Bool, cond, count_ones, Err, false, if_light, List, ltb, most_weight, None, Ok, ok_or, Option, refl, rights, set_within, Some, sym, true, ℕ, ◌+◌, ◌>>=◌, ◌∙◌, ◌≡◌}
use Rattle.acl_nfs4.specs.declared.text.fault.AceTextFault.TheVariants as faults
use Rattle.acl_nfs4.proofs.text.line.mask_at.Goals as goal

pub returns-in_default-clause-exact : goal.returns-in_default-clause-exact
returns-in_default-clause-exact c =
    let e : set_within rights c.args.profile.masks.bits c.args.field.now ≡ None =
    none_if_apart c.set_within.result (ap (λ (n : ℕ). set_within rights n c.args.field.now) (sym c.bits.ensures.value)
    ∙ sym c.set_within.ensures.exact) c.in_default.not-Some in
    ap (λ (o : Option ℕ). ok_or o (faults.Mask c.args.line c.args.column)
    >>= (λ n. if_light c.args.weight c.args.line c.args.column n)) e where
      none_if_apart : {x : Option ℕ} (o : Option ℕ) → x ≡ o → ((n : ℕ) → o ≡ Some n → ⊥) → x ≡ None
      none_if_apart None e apart = e
      none_if_apart (Some n) e apart = absurd (apart n refl)

-- a field that names a mask is read as the mask, or is too heavy
named_mask_read : (whole weight line column : ℕ) (field : List ℕ) (mask : ℕ) (heavy : Bool)
    → set_within rights whole field ≡ Some mask → ltb most_weight (weight + count_ones mask) ≡ heavy
    → (ok_or (set_within rights whole field) (faults.Mask line column) >>= λ n. if_light weight line column n)
    ≡ cond heavy (Err (faults.TooHeavy line column)) (Ok mask)
named_mask_read whole weight line column field mask heavy e h =
    ap (λ (o : Option ℕ). ok_or o (faults.Mask line column) >>= (λ n. if_light weight line column n)) e
    ∙ ap (λ b. cond b (Err (faults.TooHeavy line column)) (Ok mask)) h

pub returns-then-is_too_heavy-clause-exact : goal.returns-then-is_too_heavy-clause-exact
returns-then-is_too_heavy-clause-exact c =
    named_mask_read c.args.profile.masks.bits c.args.weight c.args.line c.args.column c.args.field.now c.in-Some.bits
    true
    (ap (λ (n : ℕ). set_within rights n c.args.field.now) (sym c.bits.ensures.value) ∙ sym c.in-Some.ensures.exact)
    (sym c.is_too_heavy.ensures ∙ c.if-is_too_heavy.true)

pub returns-clause-exact : goal.returns-clause-exact
returns-clause-exact c =
    named_mask_read c.args.profile.masks.bits c.args.weight c.args.line c.args.column c.args.field.now c.in-Some.bits
    false
    (ap (λ (n : ℕ). set_within rights n c.args.field.now) (sym c.bits.ensures.value) ∙ sym c.in-Some.ensures.exact)
    (sym c.is_too_heavy.ensures ∙ c.if-is_too_heavy.false)
