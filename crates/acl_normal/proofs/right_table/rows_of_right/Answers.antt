use Rattle.std.proofs.Common.{length}
use Rattle.acl_normal.proofs.Common.{aces_with, HasFirstPlaces, IfOk-weaker, IsReducedOf, all_cleared, ap, arith, emitted_aces, left, map, of_borrowed, subst, sym, ◌∙◌, ◌≡◌}
use Rattle.acl_normal.specs.Tables.{IsBorrowedTable}
use Rattle.acl_normal.proofs.Tables.{key_there, row_there, rows_from, rows_shown}
use Rattle.acl_normal.proofs.emit.Risen.{rising_form_of}
use Rattle.acl_normal.proofs.unique.Taken.{form_of_reduced, normal_alike, normal_once}
use Rattle.acl_normal.proofs.unique.Outline.{masked_count}
use Rattle.acl_normal.proofs.right_table.rows_of_right.Goals as goal

pub returns-then-rises : goal.returns-then-rises
returns-then-rises c =
    let list = c.args.list.now in
    let xs = aces_with c.as_slice-aces.result.now c.as_slice-masks.result.now in
    let reduced : IsReducedOf list xs =
    rw (c.as_slice-aces.ensures.value, c.as_slice-masks.ensures.value) c.in_ok-reduced.ensures.left in
    IfOk-weaker c.rows_in_place.result _ (λ rows. IsBorrowedTable c.args.right.bit list rows.items)
    (λ rows made. record {
      form = all_cleared (left xs);
      is_form = rising_form_of list xs reduced (c.rises.ensures c.if-rises.true);
      shown = rows_from c.args.right.bit list xs _ (map of_borrowed rows.items) reduced.thinned.firsts made;
    }) c.rows_in_place.ensures

pub rows_of-requires : goal.rows_of-requires
rows_of-requires c =
    let reduced = c.in_ok-reduced.reduced in
    let masks : length reduced.masks.items ≡ length reduced.aces.items =
    omega (arith, reduced.masks.ok, reduced.aces.ok, c.in_ok-reduced.ensures.places) in
    let count = ap length c.in_ok-rows.ensures ∙ masked_count reduced.aces.items reduced.masks.items masks in
    row_there c.in_ok-rows.rows c.in_ok-form.form.items _ _ c.in_ok-form.ensures.rows c.deref-4.ensures.value
    (omega (arith, c.deref-3.ensures.len, c.in_ok-places.ensures.count, ap length c.as_slice-aces.ensures.value, count))

pub returns : goal.returns
returns c =
    let right = c.args.right.bit in
    let list = c.args.list.now in
    let rows = c.in_ok-rows.rows in
    let es = c.in_ok-form.form.items in
    let r = subst (IsReducedOf list) (sym c.in_ok-rows.ensures) c.in_ok-reduced.ensures.left in
    let f = c.in_ok-form.ensures in
    let noted = subst (λ v. HasFirstPlaces right v c.in_ok-places.places.items) (sym c.in_ok-rows.ensures)
    (rw (c.as_slice-aces.ensures.value, c.as_slice-masks.ensures.value) at c.in_ok-places.ensures.places) in
    let whole = form_of_reduced list rows (emitted_aces es) r f.normal f.grants in
    IfOk-weaker c.rows_of.result _ (λ table. IsBorrowedTable right list table.items) (λ table made. record {
      form = emitted_aces es;
      is_form = whole;
      shown = rows_from right list rows _ (map of_borrowed table.items) r.thinned.firsts
          (rows_shown right rows c.in_ok-places.places.items _ es _ (map of_borrowed table.items)
          c.deref-3.ensures.value c.deref-4.ensures.value made noted f.rows
          (key_there right rows es (normal_once (emitted_aces es) right whole.normal)
          (normal_alike list rows (emitted_aces es) right r.irreducible r.grants whole.normal whole.grants)));
    }) c.rows_of.ensures
