use Rattle.std.proofs.Common.{ap, arith, length, ◌∙◌}
use Rattle.acl_perm.proofs.PieceLemmas.{out_cut, out_more}
use Rattle.acl_nfs4.specs.Ace.{ace}
use Rattle.acl_nfs4.proofs.Exits.{exit_is}
use Rattle.acl_forms.proofs.IdWrites.{next_piece, piece_len}
use Rattle.acl_forms.proofs.acl41_ids_writer.put_entries.Goals as goal

pub returns-in_err-done-clause-written : goal.returns-in_err-done-clause-written
returns-in_err-done-clause-written g c =
    let next = next_piece c.loop-ace.ace-iterator c.next.new.self (ace c.in-Some.ace) c.entry_of.result
    c.in-Some.ensures.steps.0 c.entry_of.ensures in
    let (can_next, is_finite, out, none_failed, room) = c.loop-ace.invariant in
    let (low, high, put) = c.in_err-done.ensures.written in
    rw (exit_is c.from_residual.result c.from_residual.ensures.1)
    (out_cut c.args.start c.loop-ace.done _ _ _ _ _ _ _ _ out next low high put)

pub loop-ace-preserved : goal.loop-ace-preserved
loop-ace-preserved g c =
    let next = next_piece c.loop-ace.ace-iterator c.next.new.self (ace c.in-Some.ace) c.entry_of.result
    c.in-Some.ensures.steps.0 c.entry_of.ensures in
    let (can_next, is_finite, out, none_failed, room) = c.loop-ace.invariant in
    let (count, put) = c.in_ok-done.ensures.written in
    let size = ap length c.entry_of.ensures ∙ piece_len (ace c.in-Some.ace) in (
      tt,
      tt,
      out_more c.args.start c.loop-ace.done _ _ _ _ _ _ _ _ out next count put,
      c.in_ok-done.ensures.none_failed ∙ none_failed,
      omega (arith, count, ap length c.in-Some.ensures.steps.0, size, room),
    )
