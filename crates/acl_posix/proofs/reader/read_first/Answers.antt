use Rattle.acl_posix.proofs.Common.{lines_of, err_from_is_err_and, lines_left, lines_next, lists_of, pair_of}
use Rattle.acl_posix.proofs.reader.Lines.{line_fault, reads_first, reads_on}
use Rattle.acl_posix.proofs.reader.read_first.Goals as goal

pub returns-in-Some : goal.returns-in-Some
returns-in-Some c =
    let line = c.in-Some.line in
    rw c.in_ok-push.ensures
    (reads_first c.args.names.now c.args.number c.args.text.now (lists_of c.args.lists.now) line.part
    (pair_of line.entry) line.rest c.in-Some.ensures)

pub returns-in_err-read_line : goal.returns-in_err-read_line
returns-in_err-read_line c =
    let p = err_from_is_err_and c.from_residual-in_err-read_line.result c.from_residual-in_err-read_line.ensures.1 in
    rw (p.1, p.2) (line_fault c.args.names.now c.args.number (lists_of c.args.lists.now) (lines_of c.args.text.now)
    c.cut_line.result.0.now (lines_left c.cut_line.result.1) _
    (lines_next c.args.text.now c.cut_line.result c.cut_line.ensures.parts) c.in_err-read_line.ensures)

pub returns : goal.returns
returns c = reads_on c.args.names.now c.args.number c.args.text.now (lists_of c.args.lists.now)
    (lists_of c.read_line.new.lists) c.cut_line.result c.cut_line.ensures.parts c.in_ok-read_line.ensures
