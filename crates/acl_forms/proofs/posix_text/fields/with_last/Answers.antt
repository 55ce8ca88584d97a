use Rattle.acl_perm.specs.Ascii.{colon}
use Rattle.acl_perm.specs.Lines.{span_of}
use Rattle.acl_forms.proofs.EntryLemmas.{cut_to}
use Rattle.acl_forms.proofs.PosixLemmas.{too_many}
use Rattle.acl_forms.specs.internal.PosixReading.{parts_viewed}
use Rattle.acl_forms.proofs.posix_text.fields.with_last.Goals as goal

pub returns-in-Some-clause-value : goal.returns-in-Some-clause-value
returns-in-Some-clause-value c =
    too_many (parts_viewed c.args.fields) (span_of c.args.last) (span_of c.cut.result.0) (span_of c.in-Some.field-0)
    (cut_to colon (span_of c.args.last) c.cut.result c.in-Some.field-0 c.cut.ensures.parts c.in-Some.is)
