use Rattle.std.proofs.Common.{◌≡◌, None, Some, length, slice_index_or, true}
use Rattle.acl_normal.proofs.Common.{ap, arith, first_place_of, has_bit, IsRowOf, mask_here, remaining_of, subst, sym, ◌∙◌}
use Rattle.acl_normal.proofs.emit.InRemaining.{order_there, row_there}
use Rattle.acl_normal.proofs.rows.FirstPlaces.{row_has, row_passed}
use Rattle.acl_normal.proofs.rows.remaining.Remaining.place_in.Goals as goal

pub returns-then-index-row : goal.returns-then-index-row
returns-then-index-row c p at =
    let s = c.self.inside in
    let all : length (remaining_of s) ≡ c.len-at-end.result = ap length c.self.view_is
    ∙ sym c.len-at-end.ensures.count in
    let here = order_there s c.loop-at.at _ _ c.self.invariant (omega (arith, c.loop-at-test.true, all))
    c.index-place.ensures in
    let row : c.index.result.now ≡ slice_index_or s.rows.items (slice_index_or s.order.items c.loop-at.at 0) 0 =
    c.index.ensures ∙ row_there s _ _ c.self.invariant here.1 ∙ ap (λ v. slice_index_or s.rows.items v 0) here.0 in
    subst (λ v. None ≡ first_place_of c.args.right.bit p v) c.self.view_is
    (sym (row_passed c.args.right.bit _ s.rows.items s.order.items c.args.row c.loop-at.at p c.self.invariant.list.rows
    c.self.invariant.list.order (subst (IsRowOf c.args.row p) (sym c.self.view_is) at) c.loop-at.invariant.in_row
    c.loop-at.invariant.passed (λ l e. c.if-index-row.true (row ∙ e))))

pub returns-then-has : goal.returns-then-has
returns-then-has c p at =
    let s = c.self.inside in
    let all : length (remaining_of s) ≡ c.len-at-end.result = ap length c.self.view_is
    ∙ sym c.len-at-end.ensures.count in
    let here = order_there s c.loop-at.at _ _ c.self.invariant (omega (arith, c.loop-at-test.true, all))
    c.index-place.ensures in
    let has : has_bit (mask_here (remaining_of s) c.index-place.result.now) c.args.right.bit ≡ true =
    subst (λ v. has_bit (mask_here v c.index-place.result.now) c.args.right.bit ≡ true) (sym c.self.view_is)
    (sym c.has.ensures ∙ c.if-has.true) in
    subst (λ v. Some c.index-place.result.now ≡ first_place_of c.args.right.bit p v) c.self.view_is
    (sym (row_has c.args.right.bit _ s.rows.items c.args.row c.index-place.result.now p c.self.invariant.list.rows
    (subst (IsRowOf c.args.row p) (sym c.self.view_is) at) (c.self.invariant.list.tidy.once c.args.right.bit)
    c.self.invariant.list.tidy.quiet here.1
    (sym (c.index.ensures ∙ row_there s _ _ c.self.invariant here.1) ∙ c.if-index-row.false) has))

pub returns : goal.returns
returns c p at =
    let s = c.self.inside in
    let all : length (remaining_of s) ≡ c.len-at-end.result = ap length c.self.view_is
    ∙ sym c.len-at-end.ensures.count in
    subst (λ v. None ≡ first_place_of c.args.right.bit p v) c.self.view_is
    (sym (row_passed c.args.right.bit _ s.rows.items s.order.items c.args.row c.loop-at.at p c.self.invariant.list.rows
    c.self.invariant.list.order (subst (IsRowOf c.args.row p) (sym c.self.view_is) at) c.loop-at.invariant.in_row
    c.loop-at.invariant.passed (λ l e. omega (arith, l, all, c.loop-at-test.false))))
