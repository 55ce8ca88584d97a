use Rattle.acl_posix.proofs.Common.{ap, cut_at, err_from_is_err_and, is_all_blank, line_pieces, List, Lists, lists_of, numbered, read_pieces, refl, Span, span_of, subst, sym, ℕ, ◌∙◌, ◌≡◌}
use Rattle.acl_posix.proofs.reader.Lines.{fails_is, fits_next, left_none, left_step, pieces_left}
use Rattle.acl_posix.proofs.reader.read_line.Goals as goal
use Rattle.acl_posix.specs.internal.Reading.{RestFits}

pub returns-then-is_all_blank : goal.returns-then-is_all_blank
unfolding line_pieces read_pieces
returns-then-is_all_blank c = rw (sym (c.if-is_all_blank.ensures ∙ ap is_all_blank c.before_mark-content.ensures)) refl

pub loop-rest-init : goal.loop-rest-init
unfolding line_pieces
loop-rest-init c =
    let start : cut_at 44 (span_of c.whole.result) ≡ line_pieces c.args.line.now =
    rw (sym (c.if-is_all_blank.ensures ∙ ap is_all_blank c.before_mark-content.ensures))
    (ap (cut_at 44) (c.whole.ensures.value
    ∙ ap (λ (bs : List ℕ). record { column = 1; bytes = bs }) c.before_mark-content.ensures)) in
    record {
      same = ap (λ (ss : List Span). read_pieces c.args.names.now (lists_of c.args.lists.now)
          (numbered c.args.number ss)) start;
      fits = c.whole.ensures.fits;
    }

pub returns-in_err-part : goal.returns-in_err-part
returns-in_err-part c =
    let p = err_from_is_err_and c.from_residual.result c.from_residual.ensures.1 in
    rw (p.1, p.2) (fails_is _ _ (sym c.loop-rest.invariant.same
    ∙ left_step c.args.names.now c.args.number (lists_of c.loop-rest.lists) c.loop-rest.rest c.in-Some.piece
    c.cut.result _ c.in-Some.is c.cut.ensures.parts (sym c.in_err-part.ensures)))

pub loop-rest-preserved : goal.loop-rest-preserved
loop-rest-preserved c = record {
  same = ap (λ (ls : Lists). read_pieces c.args.names.now ls (numbered c.args.number (pieces_left c.cut.result.1)))
      c.in_ok-push.ensures
      ∙ sym (left_step c.args.names.now c.args.number (lists_of c.loop-rest.lists) c.loop-rest.rest c.in-Some.piece
      c.cut.result _ c.in-Some.is c.cut.ensures.parts (sym c.in_ok-part.ensures)) ∙ c.loop-rest.invariant.same;
  fits = fits_next c.in-Some.piece c.cut.result c.cut.ensures.parts
      (subst RestFits c.in-Some.is c.loop-rest.invariant.fits);
}

pub returns : goal.returns
unfolding read_pieces
returns c = sym c.loop-rest.invariant.same
    ∙ ap (λ (ss : List Span). read_pieces c.args.names.now (lists_of c.loop-rest.lists) (numbered c.args.number ss))
    (left_none c.loop-rest.rest c.in_default.not-Some)
