use Rattle.std.proofs.Common.{ap, None, Some}
use Rattle.std.specs.Prelude.{option_map}
use Rattle.acl_perm.specs.Lines.{span_of}
use Rattle.acl_forms.proofs.NfsLemmas.{special_made}
use Rattle.acl_forms.specs.internal.NfsReading.{tail_viewed}
use Rattle.acl_forms.proofs.nfs_text.fields.special_fields.Goals as goal

pub returns-in-None-clause-value : goal.returns-in-None-clause-value
returns-in-None-clause-value c =
    special_made c.args.tag (span_of c.args.who) (span_of c.args.rest) (tail_viewed c.in_ok-tail.tail) None
    c.in_ok-tail.ensures.value (ap (option_map span_of) c.in-None.is)

pub returns-in-Some-clause-value : goal.returns-in-Some-clause-value
returns-in-Some-clause-value c =
    special_made c.args.tag (span_of c.args.who) (span_of c.args.rest) (tail_viewed c.in_ok-tail.tail)
    (Some (span_of c.in-Some.field-0)) c.in_ok-tail.ensures.value (ap (option_map span_of) c.in-Some.is)
