use Rattle.acl_normal.proofs.Common.{aces_in, ap, arith, false, is_lt, principal, principal_cmp, row_of, sym, take, ◌∙◌, ◌≡◌}
use Rattle.acl_normal.proofs.rows.RisingRows.{length_so_far, rising_push, row_again, row_next}
use Rattle.acl_normal.proofs.rows.numbers.rising_rows.Goals as goal
use Rattle.acl_normal.proofs.rows.numbers.rising_rows.Goals.{in-Equal, in-Greater}

pub loop-place-preserved : goal.loop-place-preserved
loop-place-preserved c =
    let aces = c.args.aces.now in
    let before = aces_in (take c.loop-place.place aces) in
    let rows = c.loop-place.rows.items in
    let last = principal c.loop-place.last.principal in
    let next = principal c.new-next.result.principal in
    let row : (is_lt (principal_cmp next last) ≡ false) × (c.match-compared.row ≡ row_of next before) =
    elim c.match-compared.branch [
      | in-Equal w ↦ let is = sym c.compared.ensures ∙ w.in-Equal.is in
          (ap is_lt is, w.row-is ∙ row_again before rows c.loop-place.row last c.loop-place.invariant next is)
      | in-Greater w ↦ let is = sym c.compared.ensures ∙ w.in-Greater.is in (
        ap is_lt is,
        w.row-is ∙ sym (length_so_far aces c.loop-place.place (omega (arith, c.loop-place-test.true)))
            ∙ row_next before rows c.loop-place.row last c.loop-place.invariant next is,
      )
    ] in
    rising_push aces rows c.push.new.self.items c.loop-place.row c.match-compared.row c.loop-place.place last next
    c.index-aces-place.result c.loop-place-test.true c.index-aces-place.is
    (ap principal c.new-next.ensures ∙ c.whom.ensures) c.in_ok-push.ensures.items c.loop-place.invariant row.0 row.1
