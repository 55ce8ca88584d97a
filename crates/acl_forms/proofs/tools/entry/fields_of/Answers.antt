use Rattle.std.proofs.Common.{ap, List, sym, ◌∙◌, ◌∷◌}
use Rattle.acl_perm.specs.Ascii.{colon}
use Rattle.acl_perm.specs.Lines.{Span, span_of}
use Rattle.acl_forms.specs.ToolsText.{entry_fields_of, four}
use Rattle.acl_forms.proofs.EntryLemmas.{cut_of, cut_to, more_than_four}
use Rattle.acl_forms.proofs.tools.entry.fields_of.Goals as goal

pub returns-in-Some-clause-value : goal.returns-in-Some-clause-value
unfolding entry_fields_of
returns-in-Some-clause-value c =
    let a = c.in_default-Some.rest in
    let b = c.in_default-Some-cut.rest in
    let d = c.in_default-Some-cut-2.rest in
    let one = cut_to colon (span_of c.args.entry) c.cut.result a c.cut.ensures.parts c.in_default-Some.is-1 in
    let two = cut_to colon (span_of a) c.cut-2.result b
    (cut_of colon c.cut-2.result _ (span_of a) c.cut-2.ensures.parts (ap span_of c.in_default-Some.rest-is))
    c.in_default-Some-cut.is-1 in
    let three = cut_to colon (span_of b) c.cut-3.result d
    (cut_of colon c.cut-3.result _ (span_of b) c.cut-3.ensures.parts (ap span_of c.in_default-Some-cut.rest-is))
    c.in_default-Some-cut-2.is-1 in
    let last = cut_to colon (span_of d) c.cut-4.result _
    (cut_of colon c.cut-4.result _ (span_of d) c.cut-4.ensures.parts (ap span_of c.in_default-Some-cut-2.rest-is))
    c.in-Some.is in
    sym (ap four (one ∙ ap (λ (l : List Span). span_of c.cut.result.0 ∷ l) (two
    ∙ ap (λ (l : List Span). span_of c.cut-2.result.0 ∷ l) (three
    ∙ ap (λ (l : List Span). span_of c.cut-3.result.0 ∷ l) last)))
    ∙ more_than_four _ _ _ _ _)
