use Rattle.std.proofs.Common.{ap, ◌∙◌}
use Rattle.acl_perm.specs.Ascii.{colon}
use Rattle.acl_perm.specs.Lines.{span_of}
use Rattle.acl_forms.proofs.EntryLemmas.{cut_of, cut_to}
use Rattle.acl_forms.proofs.PosixLemmas.{last_joined}
use Rattle.acl_forms.proofs.posix_text.fields.fields_in.Goals as goal

pub returns-in-Some-clause-value : goal.returns-in-Some-clause-value
returns-in-Some-clause-value c =
    let a = c.in_default-Some.rest in
    let b = c.in_default-Some-cut.rest in
    let last = c.in-Some.last in
    let one = cut_to colon (span_of c.args.rest) c.cut.result a c.cut.ensures.parts c.in_default-Some.is-1 in
    let two = cut_to colon (span_of a) c.cut-2.result b
    (cut_of colon c.cut-2.result _ (span_of a) c.cut-2.ensures.parts (ap span_of c.in_default-Some.rest-is))
    c.in_default-Some-cut.is-1 in
    let three = cut_to colon (span_of b) c.cut-3.result last
    (cut_of colon c.cut-3.result _ (span_of b) c.cut-3.ensures.parts (ap span_of c.in_default-Some-cut.rest-is))
    c.in-Some.is in
    c.with_last.ensures.value
    ∙ last_joined c.args.part (span_of c.args.rest) (span_of a) (span_of b) (span_of last) (span_of c.cut.result.0)
    (span_of c.cut-2.result.0) (span_of c.cut-3.result.0) one two three
