use Rattle.std.proofs.Common.{inr, sym}
use Rattle.acl_perm.specs.Lines.{span_of}
use Rattle.acl_forms.proofs.EntryLemmas.{commented}
use Rattle.acl_nfs4.proofs.Exits.{exit_is}
use Rattle.acl_forms.proofs.reading.read_line.Goals as goal

pub returns-in_err-judge_comment : goal.returns-in_err-judge_comment
returns-in_err-judge_comment g c all held =
    rw (exit_is c.from_residual.result c.from_residual.ensures.1)
    (inr (commented (g.F.TextForm.rules c.args.form) all (span_of c.args.line)
    c.in-Some.place _ (sym c.in-Some.ensures)
    c.in_err-judge_comment.ensures))
