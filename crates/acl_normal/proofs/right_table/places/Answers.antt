use Rattle.std.proofs.Common.{◌≡◌, ◌<◌, length}
use Rattle.acl_normal.proofs.Common.{aces_with, ap, arith, mask_here, has_bit, sym, ◌∙◌}
use Rattle.acl_normal.proofs.NotedPlaces.{noted_all, noted_more, noted_past, row_inside}
use Rattle.acl_normal.proofs.emit.Risen.{has_row, mask_of}
use Rattle.acl_normal.proofs.unique.Outline.{masked_count}
use Rattle.acl_normal.proofs.right_table.places.Goals as goal
use Rattle.acl_normal.proofs.right_table.places.Goals.{then-is_in, else-is_in}

pub bounds-rows-place : goal.bounds-rows-place
bounds-rows-place c =
    let row = has_row c.args.aces.now c.args.masks.now c.args.rows.now c.loop-place.place c.requires.masks
    c.requires.rows (omega (arith, c.loop-place-test.true, c.requires.masks)) in
    omega (arith, row.there)

pub index_mut-requires : goal.index_mut-requires
index_mut-requires c =
    let xs = aces_with c.args.aces.now c.args.masks.now in
    let count = masked_count c.args.aces.now c.args.masks.now c.requires.masks in
    let within : c.loop-place.place < length xs = omega (arith, count, c.loop-place-test.true, c.requires.masks) in
    omega (
      arith,
      count,
      row_inside xs c.args.rows.now c.loop-place.place c.requires.rows within,
      c.loop-place.invariant.count,
    )

pub loop-place-preserved : goal.loop-place-preserved
loop-place-preserved c =
    let b = c.args.right.bit in
    let xs = aces_with c.args.aces.now c.args.masks.now in
    let place = c.loop-place.place in
    let count = masked_count c.args.aces.now c.args.masks.now c.requires.masks in
    let mask = mask_of c.args.aces.now c.args.masks.now place c.index-masks-place.result c.requires.masks
    (omega (arith, c.loop-place-test.true, c.requires.masks)) c.index-masks-place.is in
    let has : has_bit (mask_here xs place) b ≡ c.is_in.result = ap (λ m. has_bit m b) mask ∙ sym c.is_in.ensures in
    elim c.if-is_in.branch [
      | then-is_in w ↦ rw w.places-is (record {
        count = c.loop-place.invariant.count;
        noted = noted_more b xs c.args.rows.now c.loop-place.places.items place c.requires.rows c.requires.tidy
            (omega (arith, count, c.loop-place-test.true, c.requires.masks))
            (omega (arith, count, c.loop-place.places.ok, c.loop-place.invariant.count))
            (has ∙ w.if-is_in.true) c.loop-place.invariant.noted;
      })
      | else-is_in w ↦ rw w.places-is (record {
        count = c.loop-place.invariant.count;
        noted = noted_past b xs c.loop-place.places.items place (has ∙ w.if-is_in.false) c.loop-place.invariant.noted;
      })
    ]

pub returns-clause-places : goal.returns-clause-places
returns-clause-places c =
    let count = masked_count c.args.aces.now c.args.masks.now c.requires.masks in
    noted_all c.args.right.bit (aces_with c.args.aces.now c.args.masks.now) c.loop-place.places.items
    c.loop-place.place (omega (arith, count, c.loop-place-test.false, c.requires.masks)) c.loop-place.invariant.noted
