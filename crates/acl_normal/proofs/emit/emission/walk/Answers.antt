use Rattle.std.proofs.Common.{◌<◌, length}
use Rattle.acl_normal.proofs.emit.Marks.{bit_added, fits_written, number_at}
use Rattle.acl_normal.proofs.rows.Rows.{row_below}
use Rattle.acl_normal.proofs.unique.Outline.{outline_length}
use Rattle.acl_normal.proofs.Common.{ap, arith, key_here, kind_rank, nothing_left, sym, ◌∙◌}
use Rattle.acl_normal.proofs.emit.QueueChains.{reached_blocked, reached_falls, reached_free, reached_kind, reached_link, reached_past, reached_within, walk_over}
use Rattle.acl_normal.proofs.emit.emission.walk.Goals as goal

pub index-link-requires : goal.index-link-requires
index-link-requires c =
    omega (arith, reached_link c.loop-at.invariant.walks c.loop-at-test.true, c.args.queues.now.links.ok)

pub returns-then-link-last : goal.returns-then-link-last
returns-then-link-last c =
    let once = c.requires.queues.list.tidy.once c.args.right.bit in
    let within = reached_within c.loop-at.invariant.walks _ c.loop-at-test.true c.index-link.ensures in record {
      keys = c.loop-at.invariant.keys;
      marks = reached_blocked c.loop-at.invariant.walks _ c.loop-at-test.true c.index-link.ensures once
          (c.last_clear-last.ensures.blocked _ c.if-link-last.true
          (omega (arith, within, c.requires.queues.list.few)));
    }

pub has-requires : goal.has-requires
has-requires c = reached_within c.loop-at.invariant.walks _ c.loop-at-test.true c.index-link.ensures

pub row_at-requires : goal.row_at-requires
row_at-requires c = reached_within c.loop-at.invariant.walks _ c.loop-at-test.true c.index-link.ensures

pub key_number-requires : goal.key_number-requires
key_number-requires c =
    let xs = c.args.rows.now in
    let row = row_below (key_here xs c.index-link.result.now.place).0 xs c.row_at.ensures.row.named in
    omega (arith, c.row_at.ensures.list.few, row, c.row_at.ensures.row.is)

pub add-requires : goal.add-requires
add-requires c =
    let xs = c.args.rows.now in
    let kind = reached_kind c.loop-at.invariant.walks _ c.loop-at-test.true c.index-link.ensures
    (c.requires.queues.list.tidy.once c.args.right.bit) (sym c.has.ensures ∙ c.if-has.true) in
    let is = number_at (key_here xs c.index-link.result.now.place) xs c.row_at.result (kind_rank c.args.kind)
    c.row_at.ensures.row (ap kind_rank (sym kind)) in
    omega (arith, is.below, c.key_number.ensures.value, c.loop-at.invariant.keys.count, outline_length xs)

pub loop-at-smaller-in_ok-add : goal.loop-at-smaller-in_ok-add
loop-at-smaller-in_ok-add c = reached_falls c.loop-at.invariant.walks _ c.loop-at-test.true c.index-link.ensures

pub loop-at-preserved-in_ok-add : goal.loop-at-preserved-in_ok-add
loop-at-preserved-in_ok-add c =
    let xs = c.args.rows.now in
    let key = key_here xs c.index-link.result.now.place in
    let kind = reached_kind c.loop-at.invariant.walks _ c.loop-at-test.true c.index-link.ensures
    (c.requires.queues.list.tidy.once c.args.right.bit) (sym c.has.ensures ∙ c.if-has.true) in
    let is = number_at key xs c.row_at.result (kind_rank c.args.kind) c.row_at.ensures.row (ap kind_rank (sym kind)) in
    let number = c.key_number.ensures.value ∙ is.is in
    let within : c.key_number.result < length c.loop-at.ready =
    omega (arith, is.below, c.key_number.ensures.value, c.loop-at.invariant.keys.count, outline_length xs) in
    record {
      walks = reached_free c.loop-at.invariant.walks _ c.loop-at-test.true c.index-link.ensures
          (c.requires.queues.list.tidy.once c.args.right.bit)
          (c.last_clear-last.ensures.clear _ c.if-link-last.false) (sym c.has.ensures ∙ c.if-has.true)
          (bit_added (nothing_left xs) c.loop-at.ready c.add.new.self _ c.args.right.bit key is.named number within
          c.in_ok-add.ensures);
      keys = fits_written (nothing_left xs) c.loop-at.ready c.add.new.self _ _ c.loop-at.invariant.keys
          (record { key = key; named = is.named; is = number }) c.in_ok-add.ensures;
    }

pub loop-at-smaller : goal.loop-at-smaller
loop-at-smaller c = reached_falls c.loop-at.invariant.walks _ c.loop-at-test.true c.index-link.ensures

pub loop-at-preserved : goal.loop-at-preserved
loop-at-preserved c = record {
  walks = reached_past c.loop-at.invariant.walks _ c.loop-at-test.true c.index-link.ensures
      (sym c.has.ensures ∙ c.if-has.false);
  keys = c.loop-at.invariant.keys;
}

pub returns : goal.returns
returns c = record {
  keys = c.loop-at.invariant.keys;
  marks = walk_over c.loop-at.invariant.walks (c.requires.queues.list.tidy.once c.args.right.bit) c.loop-at-test.false;
}
