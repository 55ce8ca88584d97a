use Rattle.acl_posix.proofs.Common.{arith, take_rest, ◌+◌}
use Rattle.acl_posix.proofs.written_line.FirstLines.{id_found}
use Rattle.acl_posix.proofs.written_line.id_before.Goals as goal

pub returns : goal.returns
returns c =
    let first = c.first_digits-value.ensures in
    id_found first (omega (arith, c.if-count-eq0.false)) (omega (arith, first.inside, c.if-count-bytes.false))
    c.if-bytes-count-ne58.false c.in_ok-id.ensures.value c.in_ok-id.id.within
    (take_rest c.args.bytes.now (c.first_digits-value.result.count + 1))
