use Rattle.acl_nfs4.proofs.Common.{Ace, ace_lines, ap, arith, lines_left, lines_next, List, no_lines, number_next, NumberFits, profile_of, read_lines, subst, sym, ◌∙◌}
use Rattle.acl_nfs4.proofs.Exits.{exit_is}
use Rattle.acl_nfs4.proofs.text.reader.read_text.Goals as goal

pub loop-rest-init : goal.loop-rest-init
loop-rest-init c = record {
  reads = ap (λ (l : List Ace). read_lines (profile_of c.args.profile) l (ace_lines c.args.text.now)) c.new-acl.ensures;
  fits = omega arith;
}

pub returns-in_err-add_line : goal.returns-in_err-add_line
returns-in_err-add_line c =
    let left = ap lines_left c.in-Some.is ∙ lines_next c.in-Some.left.now c.cut_line.result c.cut_line.ensures.parts in
    rw (exit_is c.from_residual.result c.from_residual.ensures.1, ← (rw left at c.loop-rest.invariant.reads))
    (c.in_err-add_line.ensures (lines_left c.cut_line.result.1))

pub loop-rest-preserved : goal.loop-rest-preserved
loop-rest-preserved c =
    let left = ap lines_left c.in-Some.is ∙ lines_next c.in-Some.left.now c.cut_line.result c.cut_line.ensures.parts in
    let reads = rw left at c.loop-rest.invariant.reads in record {
      reads = sym (c.in_ok-add_line.ensures (lines_left c.cut_line.result.1)) ∙ reads;
      fits = number_next c.loop-rest.number c.args.text.now c.in-Some.left c.cut_line.result c.cut_line.ensures.parts
          (subst (NumberFits c.loop-rest.number c.args.text.now) c.in-Some.is c.loop-rest.invariant.fits);
    }

pub returns : goal.returns
unfolding read_lines
returns c = sym (rw (no_lines c.loop-rest.rest c.in_default.not-Some) at c.loop-rest.invariant.reads)
