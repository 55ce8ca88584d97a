use Rattle.std.proofs.Common.{ap, List, Option, refl, subst, ◌∙◌}
use Rattle.acl_perm.specs.Lines.{Span, span_of}
use Rattle.acl_perm.specs.declared.lines.Piece.{Piece}
use Rattle.acl_forms.proofs.EntryCuts.{all_read, goes_on, items_in_parts, items_next, no_parts, part_fits, part_next, parts_left, stops}
use Rattle.acl_nfs4.proofs.Exits.{exit_is}
use Rattle.acl_forms.specs.internal.TextReading.{part_items, RestFits}
use Rattle.acl_forms.proofs.reading.read_parts.Goals as goal

pub returns-in_err-add_part : goal.returns-in_err-add_part
returns-in_err-add_part g c all held =
    let rules = g.F.TextForm.rules c.args.form in
    let r = c.cut_entry.result in
    let left = ap (λ (o : Option Piece). items_in_parts rules (parts_left rules o)) c.in-Some.is
    ∙ ap (items_in_parts rules) (part_next rules (span_of c.in-Some.left) r c.cut_entry.ensures.parts)
    ∙ items_next rules (span_of r.0) (parts_left rules r.1) in
    let reads = c.loop-rest.invariant.reads all held in
    rw (exit_is c.from_residual.result c.from_residual.ensures.1)
    (stops rules _ all _ (part_items rules (span_of r.0)) (items_in_parts rules (parts_left rules r.1)) _ _ reads left
    (c.in_err-add_part.ensures reads.now reads.held))

pub loop-rest-preserved : goal.loop-rest-preserved
loop-rest-preserved g c =
    let rules = g.F.TextForm.rules c.args.form in
    let r = c.cut_entry.result in
    let left = ap (λ (o : Option Piece). items_in_parts rules (parts_left rules o)) c.in-Some.is
    ∙ ap (items_in_parts rules) (part_next rules (span_of c.in-Some.left) r c.cut_entry.ensures.parts)
    ∙ items_next rules (span_of r.0) (parts_left rules r.1) in
    let fits = subst RestFits c.in-Some.is c.loop-rest.invariant.fits in record {
      reads = λ all held.
          let reads = c.loop-rest.invariant.reads all held in
          goes_on rules _ _ all _ (part_items rules (span_of r.0)) (items_in_parts rules (parts_left rules r.1))
          _ reads left (c.in_ok-add_part.ensures reads.now reads.held);
      fits = (part_fits rules c.in-Some.left r fits c.cut_entry.ensures.parts).1;
    }

pub returns : goal.returns
returns g c all held =
    all_read (g.F.TextForm.rules c.args.form) _ all _ _ (c.loop-rest.invariant.reads all held)
    (ap (λ (parts : List Span). items_in_parts (g.F.TextForm.rules c.args.form) parts)
    (no_parts (g.F.TextForm.rules c.args.form) c.loop-rest.rest c.in_default.not-Some))

pub loop-rest-init : goal.loop-rest-init
loop-rest-init g c =
    record { reads = λ all held. record { now = all; held = held; same = refl }; fits = c.requires.fits }

pub add_part-requires-clause-held : goal.add_part-requires-clause-held
add_part-requires-clause-held g c =
    let reads = c.loop-rest.invariant.reads c.requires.held.0 c.requires.held.1 in (reads.now, reads.held)
