use Rattle.std.proofs.Common.{sym, ◌∙◌}
use Rattle.acl_perm.specs.Lines.{span_of}
use Rattle.acl_forms.proofs.EntryLemmas.{line_skipped}
use Rattle.acl_forms.proofs.reading.read_entries.Goals as goal

pub returns-then-is_line_skipped : goal.returns-then-is_line_skipped
returns-then-is_line_skipped g c all held = (
  all,
  line_skipped (g.F.TextForm.rules c.args.form) all (span_of c.args.line)
      (sym c.is_line_skipped.ensures ∙ c.if-is_line_skipped.true),
  held,
)
