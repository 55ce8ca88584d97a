use Rattle.std.proofs.Common.{ap, arith, length, ◌∙◌}
use Rattle.acl_perm.proofs.PieceLemmas.{out_cut, out_more}
use Rattle.acl_nfs4.proofs.Exits.{exit_is}
use Rattle.acl_forms.proofs.PosixWrites.{piece_next, short_at}
use Rattle.acl_forms.specs.internal.PosixWriting.{chosen}
use Rattle.acl_forms.proofs.posix_text.writer.put_pass.Goals as goal

pub fill-requires : goal.fill-requires
fill-requires g c =
    short_at c.args.names.now c.args.style c.args.entries.now c.loop-entry.entry-index c.entry-item.result
    c.loop-entry-test.true c.entry-item.is c.requires.held

pub returns-in_err-done-clause-written : goal.returns-in_err-done-clause-written
returns-in_err-done-clause-written g c =
    let next =
    piece_next c.args.names.now c.args.style (chosen c.args.pass) c.args.entries.now _ _ c.loop-entry-test.true
    c.entry-item.is c.fill.ensures.text c.deref.ensures.0 in
    let (low, high, put) = c.in_err-done.ensures.written in
    rw (exit_is c.from_residual.result c.from_residual.ensures.1)
    (out_cut c.args.start c.loop-entry.done _ _ _ _ _ _ _ _ c.loop-entry.invariant.out next low high put)

pub loop-entry-preserved : goal.loop-entry-preserved
loop-entry-preserved g c =
    let next =
    piece_next c.args.names.now c.args.style (chosen c.args.pass) c.args.entries.now _ _ c.loop-entry-test.true
    c.entry-item.is c.fill.ensures.text c.deref.ensures.0 in
    let (count, put) = c.in_ok-done.ensures.written in
    let size = ap length c.deref.ensures.0 in
    record {
      out = out_more c.args.start c.loop-entry.done _ _ _ _ _ _ _ _ c.loop-entry.invariant.out next count put;
      none_failed = c.in_ok-done.ensures.none_failed ∙ c.loop-entry.invariant.none_failed;
      count = omega (arith, count, size, c.fill.ensures.short, c.loop-entry.invariant.count);
    }
