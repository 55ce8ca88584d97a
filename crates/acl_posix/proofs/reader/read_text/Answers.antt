use Rattle.acl_posix.proofs.Common.{ap, lines_left, List, lists_of, no_lines, NumberFits, pieces_from, read_pieces, subst, sym, ℕ, ◌∙◌}
use Rattle.acl_posix.proofs.reader.Lines.{on_read, on_fits}
use Rattle.acl_posix.proofs.reader.read_text.Goals as goal

pub loop-rest-preserved : goal.loop-rest-preserved
loop-rest-preserved c =
    let lists = lists_of c.loop-rest.lists in
    record {
      same = on_read c.args.names.now c.loop-rest.number c.in-Some.left.now lists (lists_of c.read_first.new.lists)
          c.in_ok-rest.rest c.in_ok-rest.ensures
          ∙ sym (ap (λ (ls : List (List ℕ)). read_pieces c.args.names.now lists (pieces_from c.loop-rest.number ls))
          (ap lines_left c.in-Some.is)) ∙ c.loop-rest.invariant.same;
      fits = on_fits c.args.names.now c.loop-rest.number c.args.text.now c.in-Some.left.now lists
          (lists_of c.read_first.new.lists) c.in_ok-rest.rest c.in_ok-rest.ensures
          (subst (NumberFits c.loop-rest.number c.args.text.now) c.in-Some.is c.loop-rest.invariant.fits);
    }

pub returns : goal.returns
unfolding read_pieces
returns c = sym c.loop-rest.invariant.same
    ∙ ap (λ (ls : List (List ℕ)). read_pieces c.args.names.now (lists_of c.loop-rest.lists)
    (pieces_from c.loop-rest.number ls)) (no_lines c.loop-rest.rest c.in_default.not-Some)
