use Rattle.acl_posix.proofs.Common.{arith, length, rules, ◌<◌, ◌∙◌}
use Rattle.acl_posix.proofs.digits.DigitLemmas.{digits_all, same_id, too_long}
use Rattle.acl_posix.proofs.field.read_id.Goals as goal

pub returns-then-count-left : goal.returns-then-count-left
returns-then-count-left c =
    let left = c.loop-left.left.now in
    let digits = c.loop-left.invariant.digits (digits_all c.args.digits.now c.requires) in
    let long : 10 < length left = omega (arith, c.first_digits-value.ensures.all digits, c.if-count-left.true) in
    too_long left digits (search rules) long ∙ same_id left c.args.digits.now c.loop-left.invariant.value
