use Rattle.std.proofs.Common.{ap, arith, List, refl, ◌∙◌}
use Rattle.std.specs.List.{flat_map}
use Rattle.std.proofs.lemmas.List.{drop_all}
use Rattle.acl_perm.proofs.PieceLemmas.{next_fits, out_all, out_cut, out_more, out_none}
use Rattle.acl_posix.specs.Attribute.{entry_bytes}
use Rattle.acl_posix.specs.Entries.{pairs}
use Rattle.acl_posix.specs.declared.entry.Entry.{Entry}
use Rattle.acl_nfs4.proofs.Exits.{exit_is}
use Rattle.acl_forms.proofs.AttributeWrites.{entry_next}
use Rattle.acl_forms.proofs.attributes_writer.put_entries.Goals as goal

pub loop-entry-init : goal.loop-entry-init
loop-entry-init g c = record { out = out_none c.args.start _ _ _ refl; none_failed = refl }

pub put_next-requires : goal.put_next-requires
put_next-requires g c =
    let next = entry_next c.args.entries.now c.entry_bytes.result c.loop-entry-test.true c.entry-item.is
    c.entry_bytes.ensures in
    next_fits _ _ c.loop-entry.invariant.out next c.requires

pub returns-in_err-done-clause-written : goal.returns-in_err-done-clause-written
returns-in_err-done-clause-written g c =
    let next = entry_next c.args.entries.now c.entry_bytes.result c.loop-entry-test.true c.entry-item.is
    c.entry_bytes.ensures in
    let (low, high, known) = c.in_err-done.ensures.written in
    rw (exit_is c.from_residual.result c.from_residual.ensures.1)
    (out_cut c.args.start c.loop-entry.done _ _ _ _ _ _ _ _ c.loop-entry.invariant.out next low high known)

pub loop-entry-preserved : goal.loop-entry-preserved
loop-entry-preserved g c =
    let next = entry_next c.args.entries.now c.entry_bytes.result c.loop-entry-test.true c.entry-item.is
    c.entry_bytes.ensures in
    let (count, known) = c.in_ok-done.ensures.written in
    record {
      out = out_more c.args.start c.loop-entry.done _ _ _ _ _ _ _ _ c.loop-entry.invariant.out next count known;
      none_failed = c.in_ok-done.ensures.none_failed ∙ c.loop-entry.invariant.none_failed;
    }

pub returns-clause-written : goal.returns-clause-written
returns-clause-written g c =
    out_all c.args.start c.loop-entry.done _ _ _ _ c.loop-entry.invariant.out
    (ap (λ (es : List Entry). flat_map entry_bytes (pairs es))
    (drop_all c.loop-entry.entry-index c.args.entries.now (omega (arith, c.loop-entry-test.false))))

pub returns-clause-none_failed : goal.returns-clause-none_failed
returns-clause-none_failed g c = c.loop-entry.invariant.none_failed
