use Rattle.acl_posix.proofs.Common.{Access, append-nil, err_from_is_err_and, List, None, Ok, part_out, Some, subst, sym, true, WritesFrom, written_both, ℕ}
use Rattle.std.specs.FinMap as fin
use Rattle.acl_posix.proofs.writer.Forms.{form_is}
use Rattle.acl_posix.proofs.writer.Putting.{cut_first}
use Rattle.acl_posix.proofs.writer.put_file.Goals as goal

pub returns-in_err-done-clause-written : goal.returns-in_err-done-clause-written
returns-in_err-done-clause-written g c =
    let p = err_from_is_err_and c.from_residual.result c.from_residual.ensures.1 in
    rw (p.1, p.2)
    (cut_first _ _ 0 _ _ _ _ (form_is c.args.form _ _ c.entries-entries.ensures.valid) c.in_err-done.ensures.written)

pub returns-in-Some-clause-written : goal.returns-in-Some-clause-written
returns-in-Some-clause-written g c =
    let (count, known) = c.in_ok-done.ensures.written in
    rw c.in-Some.is
    (subst (λ (t : List ℕ). WritesFrom (g.S.Sink.contents c.args.sink.now)
    (g.S.Sink.contents c.put_part-in-Some.new.sink) 0 t c.put_part-in-Some.result)
    (form_is c.args.form c.args.access.now (Some c.in-Some.acl.now) c.entries-entries.ensures.valid)
    (written_both _ _ _ 0 c.in_ok-done.done _ _ c.put_part-in-Some.result count known
    c.put_part-in-Some.ensures.written))

pub returns-in-None-clause-written : goal.returns-in-None-clause-written
returns-in-None-clause-written g c =
    let done = c.in_ok-done.done in
    let access = part_out c.args.form Access c.args.access.now true (fin.entries c.args.access.now) in
    let writes : List ℕ → Type 0 = λ t. WritesFrom (g.S.Sink.contents c.args.sink.now)
    (g.S.Sink.contents c.put_part.new.sink) 0 t (Ok done) in
    rw c.in-None.is
    (subst writes (form_is c.args.form c.args.access.now None c.entries-entries.ensures.valid)
    (subst writes (sym (append-nil access)) c.in_ok-done.ensures.written))
