use Rattle.std.proofs.Common.{ap, List, [], Option, subst, ◌∙◌}
use Rattle.std.specs.List.{flat_map}
use Rattle.std.proofs.lemmas.List.Concat.{flat_map-cons}
use Rattle.acl_perm.specs.Lines.{Span, span_of}
use Rattle.acl_perm.specs.declared.lines.Piece.{Piece}
use Rattle.acl_forms.proofs.EntryCuts.{all_read, goes_on, line_fits, line_next, lines_left, no_lines, stops}
use Rattle.acl_nfs4.proofs.Exits.{exit_is}
use Rattle.acl_forms.specs.internal.TextReading.{RestFits}
use Rattle.acl_forms.specs.Texts.{line_items}
use Rattle.acl_forms.proofs.reading.read_lines.Goals as goal

pub returns-in_err-read_line : goal.returns-in_err-read_line
returns-in_err-read_line g c =
    let rules = g.F.TextForm.rules c.args.form in
    let r = c.cut.result in
    let left = ap (λ (o : Option Piece). flat_map (line_items rules) (lines_left o)) c.in-Some.is
    ∙ ap (flat_map (line_items rules)) (line_next (span_of c.in-Some.left) r c.cut.ensures.parts)
    ∙ flat_map-cons (line_items rules) (span_of r.0) (lines_left r.1) in
    let reads = c.loop-rest.invariant.reads in
    rw (exit_is c.from_residual.result c.from_residual.ensures.1)
    (stops rules _ [] _ (line_items rules (span_of r.0)) (flat_map (line_items rules) (lines_left r.1)) _ _ reads left
    (c.in_err-read_line.ensures reads.now reads.held))

pub read_line-requires-clause-held : goal.read_line-requires-clause-held
read_line-requires-clause-held g c = (c.loop-rest.invariant.reads.now, c.loop-rest.invariant.reads.held)

pub loop-rest-preserved : goal.loop-rest-preserved
loop-rest-preserved g c =
    let rules = g.F.TextForm.rules c.args.form in
    let r = c.cut.result in
    let left = ap (λ (o : Option Piece). flat_map (line_items rules) (lines_left o)) c.in-Some.is
    ∙ ap (flat_map (line_items rules)) (line_next (span_of c.in-Some.left) r c.cut.ensures.parts)
    ∙ flat_map-cons (line_items rules) (span_of r.0) (lines_left r.1) in
    let fits = subst RestFits c.in-Some.is c.loop-rest.invariant.fits in record {
      reads =
          let reads = c.loop-rest.invariant.reads in
          goes_on rules _ _ [] _ (line_items rules (span_of r.0)) (flat_map (line_items rules) (lines_left r.1))
          _ reads left (c.in_ok-read_line.ensures reads.now reads.held);
      fits = (line_fits c.in-Some.left r fits c.cut.ensures.parts).1;
    }

pub returns : goal.returns
returns g c =
    all_read (g.F.TextForm.rules c.args.form) _ [] _ _ c.loop-rest.invariant.reads
    (ap (λ (lines : List Span). flat_map (line_items (g.F.TextForm.rules c.args.form)) lines)
    (no_lines c.loop-rest.rest c.in_default.not-Some))
