use Rattle.acl_posix.proofs.Common.{ap, Entry, err_from_is_err_and, inr, IsFaultOf, List, pairs, refl, subst, sym, ◌∙◌}
use Rattle.acl_posix.specs.Attribute.{frame_fault, IsFaultOfAttribute, IsFirstFall, NeverFalls}
use Rattle.acl_posix.proofs.attribute.Falls.{holds_from, invalid_from, no_fall, the_raws}
use Rattle.acl_posix.proofs.acl.PosixAcl.from_attribute.Goals as goal

pub returns-in-Some-first_fall-clause-fault : goal.returns-in-Some-first_fall-clause-fault
returns-in-Some-first_fall-clause-fault c =
    invalid_from c.args.bytes.now c.deref.result.now (pairs c.deref-2.result.now)
    (λ entries. IsFirstFall entries c.in-Some-first_fall.place) (sym c.frame_fault.ensures ∙ c.in_default.is)
    (the_raws c.args.bytes.now (c.deref.ensures.value ∙ c.in_ok-raws.ensures)) c.in_ok-entries.ensures.valid
    (ap (λ (es : List Entry). pairs es) c.deref-2.ensures.value ∙ c.in_ok-entries.ensures.entries)
    c.in-Some-first_fall.ensures.some

pub returns-in-Some-first_fall-clause-accepts : goal.returns-in-Some-first_fall-clause-accepts
returns-in-Some-first_fall-clause-accepts c = λ acl holds.
    absurd (no_fall c.args.bytes.now acl c.deref.result.now (pairs c.deref-2.result.now) c.in-Some-first_fall.place
    (the_raws c.args.bytes.now (c.deref.ensures.value ∙ c.in_ok-raws.ensures))
    (ap (λ (es : List Entry). pairs es) c.deref-2.ensures.value ∙ c.in_ok-entries.ensures.entries)
    c.in-Some-first_fall.ensures.some holds)

pub returns-in_err-from_entries-clause-fault : goal.returns-in_err-from_entries-clause-fault
returns-in_err-from_entries-clause-fault c =
    let never : NeverFalls (pairs c.in_ok-entries.entries.items) =
    subst (λ (es : List Entry). NeverFalls (pairs es)) c.deref-2.ensures.value
    (c.in_default-first_fall.ensures.none refl) in
    let wrong = invalid_from c.args.bytes.now c.deref.result.now (pairs c.in_ok-entries.entries.items)
    (λ entries. NeverFalls entries × IsFaultOf entries c.in_err-from_entries.field-0.0)
    (sym c.frame_fault.ensures ∙ c.in_default.is)
    (the_raws c.args.bytes.now (c.deref.ensures.value ∙ c.in_ok-raws.ensures))
    c.in_ok-entries.ensures.valid c.in_ok-entries.ensures.entries (never, c.in_err-from_entries.ensures.fault) in
    let p = err_from_is_err_and c.from_residual-in_err-from_entries.result
    c.from_residual-in_err-from_entries.ensures.1 in
    rw p.1 (subst (IsFaultOfAttribute c.args.bytes.now) (sym p.2) (inr wrong))

pub returns-clause-read : goal.returns-clause-read
returns-clause-read c =
    holds_from c.args.bytes.now c.deref.result.now (pairs c.in_ok-entries.entries.items) _
    (sym c.frame_fault.ensures ∙ c.in_default.is)
    (the_raws c.args.bytes.now (c.deref.ensures.value ∙ c.in_ok-raws.ensures))
    c.in_ok-entries.ensures.valid c.in_ok-entries.ensures.entries
    (subst (λ (es : List Entry). NeverFalls (pairs es)) c.deref-2.ensures.value
    (c.in_default-first_fall.ensures.none refl))
    c.in_ok-from_entries.ensures.valid c.in_ok-from_entries.ensures.entries
