use Rattle.acl_posix.proofs.Common.{ap, arith, drop_all, Entry, err_from_is_err_and, List, next_fits, out_all, out_cut, out_more, out_none, pairs, part_out, refl, sym, Tag, ℕ, ◌∙◌}
use Rattle.acl_posix.proofs.writer.Putting.{entry_next}
use Rattle.acl_posix.proofs.writer.put_part.Goals as goal

pub loop-entry-init : goal.loop-entry-init
loop-entry-init g c = record {
  out = out_none c.args.done _ _ _
      (ap (λ (es : List (Tag × ℕ)). part_out c.args.form c.args.part c.args.acl.now c.args.is_first es)
      (sym c.requires.entries));
  same = refl;
}

pub put_next-requires : goal.put_next-requires
put_next-requires g c =
    let next = entry_next c.args.form c.args.part c.args.acl.now c.loop-entry.is_first c.args.entries.now
    c.put_entry-start.new.line c.put_entry-start.result c.loop-entry-test.true c.entry-item.is
    c.put_entry-start.array_long c.put_entry-start.ensures.text c.masked_by.ensures c.mask-mask.ensures in
    next_fits _ _ c.loop-entry.invariant.out next c.requires.room

pub returns-in_err-done-clause-written : goal.returns-in_err-done-clause-written
returns-in_err-done-clause-written g c =
    let p = err_from_is_err_and c.from_residual.result c.from_residual.ensures.1 in
    let next = entry_next c.args.form c.args.part c.args.acl.now c.loop-entry.is_first c.args.entries.now
    c.put_entry-start.new.line c.put_entry-start.result c.loop-entry-test.true c.entry-item.is
    c.put_entry-start.array_long c.put_entry-start.ensures.text c.masked_by.ensures c.mask-mask.ensures in
    let (low, high, known) = c.in_err-done.ensures.written in
    rw (p.1, p.2)
    (out_cut c.args.done c.loop-entry.done _ _ _ _ _ _ _ _ c.loop-entry.invariant.out next low high known)

pub loop-entry-preserved : goal.loop-entry-preserved
loop-entry-preserved g c =
    let next = entry_next c.args.form c.args.part c.args.acl.now c.loop-entry.is_first c.args.entries.now
    c.put_entry-start.new.line c.put_entry-start.result c.loop-entry-test.true c.entry-item.is
    c.put_entry-start.array_long c.put_entry-start.ensures.text c.masked_by.ensures c.mask-mask.ensures in
    let (count, known) = c.in_ok-done.ensures.written in
    record {
      out = out_more c.args.done c.loop-entry.done _ _ _ _ _ _ _ _ c.loop-entry.invariant.out next count known;
      same = c.in_ok-done.ensures.none_failed ∙ c.loop-entry.invariant.same;
    }

pub returns-clause-written : goal.returns-clause-written
returns-clause-written g c =
    out_all c.args.done c.loop-entry.done _ _ _ _ c.loop-entry.invariant.out
    (ap (λ (es : List Entry). part_out c.args.form c.args.part c.args.acl.now c.loop-entry.is_first (pairs es))
    (drop_all c.loop-entry.entry-index c.args.entries.now (omega (arith, c.loop-entry-test.false))))

pub returns-clause-none_failed : goal.returns-clause-none_failed
returns-clause-none_failed g c = c.loop-entry.invariant.same
