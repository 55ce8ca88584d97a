use Rattle.std.proofs.Common.{false, inr, refl, true}
use Rattle.acl_posix.specs.Entries.{pairs}
use Rattle.acl_forms.proofs.AttributeLemmas.{falls, lacks, repeats}
use Rattle.acl_forms.proofs.attributes.acl_of.Goals as goal

pub returns-in-Some-clause-fault : goal.returns-in-Some-clause-fault
returns-in-Some-clause-fault c =
    rw c.at_entry.ensures
    (inr (falls (pairs c.args.entries.items) c.args.len c.in-Some.place c.in-Ok.ensures.valid.distinct
    (rw c.deref.ensures.value at c.in-Some.ensures.some)))

pub returns-in-Err-Multi-clause-fault : goal.returns-in-Err-Multi-clause-fault
returns-in-Err-Multi-clause-fault c =
    let wrong = rw c.in-Err-Multi.field-0-is at c.in-Err-Multi.ensures.fault in
    rw c.earlier.ensures
    (inr (repeats (pairs c.args.entries.items) c.args.len c.in-Err-Multi.place c.first_fall-fall.result false wrong.0
    wrong.1 (rw c.deref.ensures.value at c.first_fall-fall.ensures.some)
    (rw c.deref.ensures.value at c.first_fall-fall.ensures.none)))

pub returns-in-Err-Duplicate-clause-fault : goal.returns-in-Err-Duplicate-clause-fault
returns-in-Err-Duplicate-clause-fault c =
    let wrong = rw c.in-Err-Duplicate.field-0-is at c.in-Err-Duplicate.ensures.fault in
    rw c.earlier-in-Err-Duplicate.ensures
    (inr (repeats (pairs c.args.entries.items) c.args.len c.in-Err-Duplicate.place c.first_fall-fall.result true wrong.0
    wrong.1 (rw c.deref.ensures.value at c.first_fall-fall.ensures.some)
    (rw c.deref.ensures.value at c.first_fall-fall.ensures.none)))

pub returns-in-None-fall-clause-fault : goal.returns-in-None-fall-clause-fault
returns-in-None-fall-clause-fault c =
    rw c.new.ensures
    (inr (lacks (pairs c.args.entries.items) c.args.len c.in-Err-Miss.tag
    (rw c.deref.ensures.value at c.in-None-fall.ensures.none refl)
    (rw c.in-Err-Miss.field-0-is at c.in-Err-Miss.ensures.fault)))

pub returns-in-Some-fall-clause-fault : goal.returns-in-Some-fall-clause-fault
returns-in-Some-fall-clause-fault c =
    let wrong = rw c.in-Err-Miss.field-0-is at c.in-Err-Miss.ensures.fault in
    rw c.at_entry-in-Some-fall.ensures
    (inr (falls (pairs c.args.entries.items) c.args.len c.in-Some-fall.place wrong.distinct
    (rw c.deref.ensures.value at c.in-Some-fall.ensures.some)))
