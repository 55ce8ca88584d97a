use Rattle.acl_nfs4.proofs.Common.{ace, Ok, profile_of, sym}
use Rattle.acl_nfs4.proofs.Exits.{exit_is}
use Rattle.acl_nfs4.proofs.text.AceLines.{fails_is, read_kept, read_skipped}
use Rattle.acl_nfs4.proofs.text.reader.add_line.Goals as goal

pub returns-then-is_skipped : goal.returns-then-is_skipped
returns-then-is_skipped c = λ more.
    read_skipped (profile_of c.args.profile) c.args.acl.now c.args.number c.args.line.now more
    (sym c.if-is_skipped.ensures)

pub returns-in_err-item : goal.returns-in_err-item
returns-in_err-item c = λ more.
    let read = rw (c.len.ensures, c.weight.ensures.value) at c.in_err-item.ensures.exact in
    rw (exit_is c.from_residual.result c.from_residual.ensures.1) (fails_is _ _
    (read_kept (profile_of c.args.profile) c.args.acl.now c.args.number c.args.line.now more _
    (sym c.if-is_skipped.ensures) read))

pub returns-in_err-append : goal.returns-in_err-append
returns-in_err-append c = λ more.
    rw (exit_is c.from_residual-in_err-append.result c.from_residual-in_err-append.ensures.1) tt

pub returns : goal.returns
returns c = λ more.
    let read = rw (c.len.ensures, c.weight.ensures.value) at c.in_ok-item.ensures.exact in
    rw c.in_ok-append.ensures.ok
    (read_kept (profile_of c.args.profile) c.args.acl.now c.args.number c.args.line.now more
    (Ok (ace c.in_ok-item.item)) (sym c.if-is_skipped.ensures) read)
