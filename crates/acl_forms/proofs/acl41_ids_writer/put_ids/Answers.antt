use Rattle.std.proofs.Common.{arith}
use Rattle.acl_nfs4.proofs.Exits.{exit_is}
use Rattle.acl_forms.proofs.IdWrites.{head_cut, head_then}
use Rattle.acl_forms.proofs.acl41_ids_writer.put_ids.Goals as goal

pub overflow_cast-len : goal.overflow_cast-len
overflow_cast-len g c = omega (arith, c.aces-aces.ensures.accepted.count, c.len.ensures)

pub returns-in_err-done-clause-written : goal.returns-in_err-done-clause-written
returns-in_err-done-clause-written g c =
    rw (exit_is c.from_residual.result c.from_residual.ensures.1)
    (head_cut _ _ c.args.flags.bits c.args.list.now c.head_of.result c.in_err-done.field-0.0
    (rw c.len.ensures at c.head_of.ensures) c.in_err-done.ensures.written)

pub returns-clause-written : goal.returns-clause-written
returns-clause-written g c =
    let (count, put) = c.in_ok-done.ensures.written in
    let said = rw c.aces-aces.ensures.same at c.put_entries.ensures.written in
    head_then _ _ _ c.args.flags.bits c.args.list.now c.head_of.result c.in_ok-done.done c.put_entries.result
    (rw c.len.ensures at c.head_of.ensures) count put said
