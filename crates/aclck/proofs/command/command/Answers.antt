use Rattle.std.proofs.Common.{arith, sym}
use Rattle.aclck.proofs.CommandLemmas.{ended_so, failed_so}
use Rattle.aclck.proofs.command.command.Goals as goal

pub returns-in-Ok-Yes : goal.returns-in-Ok-Yes
returns-in-Ok-Yes g c =
    ended_so _ 0 (omega arith) (sym c.in-Ok-Yes.field-0-is) c.in-Ok-Yes.ensures.runs c.in-Ok-Yes.ensures.unnamed

pub returns-in-Ok-No : goal.returns-in-Ok-No
returns-in-Ok-No g c =
    ended_so _ 1 (omega arith) (sym c.in-Ok-No.field-0-is) c.in-Ok-No.ensures.runs c.in-Ok-No.ensures.unnamed

pub returns-in-Err : goal.returns-in-Err
returns-in-Err g c =
    failed_so c.in-Err.fault c.fail.result c.fail.ensures c.in-Err.ensures.runs c.in-Err.ensures.unnamed
