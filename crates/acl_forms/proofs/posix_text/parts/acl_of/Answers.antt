use Rattle.std.proofs.Common.{false, inr, true}
use Rattle.std.specs.Prelude.{map}
use Rattle.acl_forms.proofs.PosixLemmas.{lacks, repeats}
use Rattle.acl_forms.specs.internal.PosixReading.{placed}
use Rattle.acl_forms.proofs.posix_text.parts.acl_of.Goals as goal

pub returns-in-Err-Multi-clause-fault : goal.returns-in-Err-Multi-clause-fault
returns-in-Err-Multi-clause-fault c =
    let wrong = rw (c.in-Err-Multi.field-0-is, c.in_ok-entries.ensures) at c.in-Err-Multi.ensures.fault in
    rw c.at_entry.ensures
    (inr (repeats (map placed c.args.read.now) c.args.len c.in-Err-Multi.place false wrong.0 wrong.1))

pub returns-in-Err-Duplicate-clause-fault : goal.returns-in-Err-Duplicate-clause-fault
returns-in-Err-Duplicate-clause-fault c =
    let wrong = rw (c.in-Err-Duplicate.field-0-is, c.in_ok-entries.ensures) at c.in-Err-Duplicate.ensures.fault in
    rw c.at_entry-in-Err-Duplicate.ensures
    (inr (repeats (map placed c.args.read.now) c.args.len c.in-Err-Duplicate.place true wrong.0 wrong.1))

pub returns-in-Err-Miss-clause-fault : goal.returns-in-Err-Miss-clause-fault
returns-in-Err-Miss-clause-fault c =
    let wrong = rw (c.in-Err-Miss.field-0-is, c.in_ok-entries.ensures) at c.in-Err-Miss.ensures.fault in
    rw c.new.ensures (inr (lacks (map placed c.args.read.now) c.args.len c.in-Err-Miss.tag wrong))
