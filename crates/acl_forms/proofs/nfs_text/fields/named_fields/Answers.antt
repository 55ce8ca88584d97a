use Rattle.std.proofs.Common.{Some, sym}
use Rattle.acl_perm.specs.Lines.{span_of}
use Rattle.acl_forms.proofs.NfsLemmas.{named_made, parts_to}
use Rattle.acl_forms.specs.NfsText.{trimmed_span}
use Rattle.acl_forms.specs.internal.NfsReading.{tail_viewed}
use Rattle.acl_forms.proofs.nfs_text.fields.named_fields.Goals as goal

pub returns-clause-value : goal.returns-clause-value
returns-clause-value c =
    let rest = c.in_ok-after.field-0 in
    named_made c.args.tag (span_of c.args.rest) (span_of rest) (trimmed_span (span_of c.cut.result.0))
    (span_of c.without_blanks.result) (tail_viewed c.in_ok-tail.tail)
    (parts_to (span_of c.args.rest) c.cut.result (Some rest) c.cut.ensures.parts c.in_ok-after.was)
    c.without_blanks.ensures.value (sym c.in_ok-tail.ensures.value)
