use Rattle.std.proofs.Common.{[], ap, ◌∙◌}
use Rattle.acl_forms.specs.declared.writing.AceTextForm.TheVariants.{Tools}
use Rattle.acl_forms.specs.internal.TextWriting.{entries_left}
use Rattle.acl_nfs4.proofs.Exits.{exit_is}
use Rattle.acl_forms.proofs.FormLemmas.{done_written, tools_entries, part_written, refused_written}
use Rattle.acl_forms.proofs.tools.writer.write_tools.Goals as goal

pub returns-in-Some : goal.returns-in-Some
returns-in-Some g c = record {
  written =
      refused_written g.S.Sink.contents g.S.Sink.failure_count c.args.sink.now _ _ c.in-Some.fault c.in-Some.ensures;
}

pub returns-in_err-put_entries : goal.returns-in_err-put_entries
returns-in_err-put_entries g c =
    let text = ap (entries_left Tools []) c.aces.ensures.same ∙ tools_entries c.args.list.now in
    rw (exit_is c.from_residual.result c.from_residual.ensures.1) (record {
      written = part_written g.S.Sink.contents g.S.Sink.failure_count c.args.sink.now c.put_entries.new.sink _ _ _
          c.in_err-put_entries.field-0.0 c.in_default.ensures text c.in_err-put_entries.ensures.written
          c.in_err-put_entries.ensures.failed;
    })

pub returns : goal.returns
returns g c =
    let text = ap (entries_left Tools []) c.aces.ensures.same ∙ tools_entries c.args.list.now in
    record {
      written = done_written g.S.Sink.contents g.S.Sink.failure_count c.args.sink.now c.put_entries.new.sink _ _ _
          _ c.in_default.ensures text c.in_ok-put_entries.ensures.written
          c.in_ok-put_entries.ensures.none_failed;
    }
