use Rattle.std.proofs.Common.{sym, ◌∙◌}
use Rattle.acl_perm.specs.Lines.{span_of}
use Rattle.acl_forms.proofs.EntryLemmas.{part_read, passed_over}
use Rattle.acl_forms.proofs.reading.add_part.Goals as goal

pub returns-then-is_part_skipped : goal.returns-then-is_part_skipped
returns-then-is_part_skipped g c all held = (
  all,
  passed_over (g.F.TextForm.rules c.args.form) all (span_of c.args.part)
      (sym c.is_part_skipped.ensures ∙ c.if-is_part_skipped.true),
  held,
)

pub returns : goal.returns
returns g c all held =
    part_read (g.F.TextForm.rules c.args.form) all _ (span_of c.args.part) c.add_entry.result
    (sym c.is_part_skipped.ensures ∙ c.if-is_part_skipped.false) (c.add_entry.ensures all held)
