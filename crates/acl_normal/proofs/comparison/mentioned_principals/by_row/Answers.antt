use Rattle.acl_normal.proofs.Common.{refl, slice_index_or, ◌≡◌}
use Rattle.acl_normal.proofs.comparison.MentionedRows.{row_inside, table_noted}
use Rattle.acl_normal.proofs.comparison.mentioned_principals.by_row.Goals as goal
use Rattle.acl_normal.proofs.comparison.mentioned_principals.by_row.Goals.{in-Some, in_default}
use Rattle.acl_normal.specs.internal.comparison.MentionedRows.{noted}

pub index_mut-requires : goal.index_mut-requires
index_mut-requires c = row_inside _ _ _ _ _ _ _ c.requires c.loop-place-test.true refl
    c.loop-place.table.ok.0 c.loop-place.invariant

pub loop-place-preserved : goal.loop-place-preserved
loop-place-preserved c =
    let next : c.match-mentioned_by.table.items
    ≡ noted c.loop-place.table.items (slice_index_or c.args.rows.now c.loop-place.place 0) c.mentioned_by.result =
    elim c.match-mentioned_by.branch [
      | in-Some w ↦ rw (w.table-is, w.in-Some.is) refl
      | in_default w ↦ rw (w.table-is, w.in_default.is) refl
    ] in
    table_noted _ _ _ _ _ _ _ _ _ _ c.requires c.loop-place-test.true refl
    c.index-aces-place.is c.mentioned_by.ensures next c.loop-place.invariant
