use Rattle.std.proofs.Common.{None, Some}
use Rattle.aclck_c.proofs.Reasons.{name_found}
use Rattle.aclck_c.proofs.reason.reason_name.Goals as goal

pub returns-in-Some : goal.returns-in-Some
returns-in-Some c =
    name_found c.reasons.result.now c.args.number (Some c.in-Some.row.now) c.in-Some.ensures c.reasons.ensures

pub returns-in-None : goal.returns-in-None
returns-in-None c = name_found c.reasons.result.now c.args.number None c.in-None.ensures c.reasons.ensures
