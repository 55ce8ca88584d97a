use Rattle.acl_normal.proofs.Common.{AddsRow, emitted_ace, HasKey, IsRowOf, principal_of, subst, sym}
use Rattle.acl_normal.proofs.Tables.{rows_on}
use Rattle.acl_normal.proofs.right_table.rows_of.Goals as goal

pub loop-item-preserved : goal.loop-item-preserved
loop-item-preserved c list places rows keys =
    let bit = c.args.right.bit in
    let i = c.loop-item.item-index in
    let l = c.loop-item-test.true in
    rows_on bit list c.args.form.now i _ c.loop-item.table.items c.add_row.new.table.items l
    (c.loop-item.invariant list places rows keys)
    (subst (λ e. AddsRow bit list (emitted_ace e) c.loop-item.table.items c.add_row.new.table.items) c.item-item.is
    (c.in_ok-add_row.ensures list
    (λ first. places _ _ first
    (subst (λ e. IsRowOf e.row (principal_of (emitted_ace e)) list) (sym c.item-item.is) (rows i _ l)))
    (subst (λ e. HasKey bit list (emitted_ace e)) (sym c.item-item.is) (keys i _ l))))
