use Rattle.acl_nfs4.proofs.Common.{Ace, ace, ace_line, ace_text, ap, arith, flat_map-cons, length, List, out_cut, out_more, ℕ, ◌++◌, ◌∙◌, ◌∷◌, ◌≡◌}
use Rattle.acl_nfs4.proofs.Exits.{exit_is}
use Rattle.acl_nfs4.proofs.text.writer.put_lines.Goals as goal

-- the text of ACEs is the line of the first and the text of the others
next_line : (list rest : List Ace) (a : Ace) (line piece : List ℕ) → list ≡ a ∷ rest → line ≡ ace_line a → piece ≡ line
    → ace_text list ≡ piece ++ ace_text rest
next_line list rest a line piece e is same = rw (e, same, is) (flat_map-cons ace_line a rest)

pub returns-in_err-done-clause-written : goal.returns-in_err-done-clause-written
returns-in_err-done-clause-written g c =
    let next = next_line c.loop-ace.ace-iterator c.next.new.self (ace c.in-Some.ace) _ _ c.in-Some.ensures.steps.0
    c.fill.ensures.text c.deref.ensures.0 in
    let (can_next, is_finite, out, none_failed, room) = c.loop-ace.invariant in
    let (low, high, put) = c.in_err-done.ensures.written in
    rw (exit_is c.from_residual.result c.from_residual.ensures.1)
    (out_cut 0 c.loop-ace.done _ _ _ _ _ _ _ _ out next low high put)

pub loop-ace-preserved : goal.loop-ace-preserved
loop-ace-preserved g c =
    let next = next_line c.loop-ace.ace-iterator c.next.new.self (ace c.in-Some.ace) _ _ c.in-Some.ensures.steps.0
    c.fill.ensures.text c.deref.ensures.0 in
    let (can_next, is_finite, out, none_failed, room) = c.loop-ace.invariant in
    let (count, put) = c.in_ok-done.ensures.written in
    let size = ap length c.deref.ensures.0 in (
      tt,
      tt,
      out_more 0 c.loop-ace.done _ _ _ _ _ _ _ _ out next count put,
      c.in_ok-done.ensures.none_failed ∙ none_failed,
      omega (arith, count, ap length c.in-Some.ensures.steps.0, size, c.fill.ensures.short, room),
    )
