use Rattle.std.proofs.Common.{ap, Some, ◌∙◌}
use Rattle.acl_perm.specs.Ascii.{colon}
use Rattle.acl_perm.specs.Lines.{span_of}
use Rattle.acl_forms.proofs.EntryLemmas.{cut_of}
use Rattle.acl_forms.proofs.NfsLemmas.{parts_to, tail_joined}
use Rattle.acl_forms.proofs.nfs_text.fields.tail_of.Goals as goal

pub returns-in-Some-clause-value : goal.returns-in-Some-clause-value
returns-in-Some-clause-value c =
    let a = c.in_default-Some.rest in
    let b = c.in_default-Some-cut.rest in
    let last = c.in-Some.last in
    let one = parts_to (span_of c.args.rest) c.cut.result (Some a) c.cut.ensures.parts c.in_default-Some.is-1 in
    let two = parts_to (span_of a) c.cut-2.result (Some b)
    (cut_of colon c.cut-2.result _ (span_of a) c.cut-2.ensures.parts (ap span_of c.in_default-Some.rest-is))
    c.in_default-Some-cut.is-1 in
    let three = parts_to (span_of b) c.cut-3.result (Some last)
    (cut_of colon c.cut-3.result _ (span_of b) c.cut-3.ensures.parts (ap span_of c.in_default-Some-cut.rest-is))
    c.in-Some.is in
    c.with_id.ensures.value
    ∙ tail_joined (span_of c.args.rest) (span_of a) (span_of b) (span_of last) _ _ _ _ _ _ one two three
    c.without_blanks.ensures.value c.without_blanks-2.ensures.value c.without_blanks-3.ensures.value
