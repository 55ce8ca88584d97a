use Rattle.std.proofs.Common.{Some}
use Rattle.acl_perm.specs.Lines.{span_of}
use Rattle.acl_forms.proofs.NfsLemmas.{parts_to, too_many}
use Rattle.acl_forms.specs.NfsText.{trimmed_span}
use Rattle.acl_forms.specs.internal.NfsReading.{tail_viewed}
use Rattle.acl_forms.proofs.nfs_text.fields.with_id.Goals as goal

pub returns-in-Some-clause-value : goal.returns-in-Some-clause-value
returns-in-Some-clause-value c =
    too_many (tail_viewed c.args.tail) (span_of c.args.last) (trimmed_span (span_of c.cut.result.0))
    (span_of c.in-Some.field-0)
    (parts_to (span_of c.args.last) c.cut.result (Some c.in-Some.field-0) c.cut.ensures.parts c.in-Some.is)
