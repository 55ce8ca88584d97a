use Rattle.std.proofs.Common.{map}
use Rattle.acl_normal.proofs.Common.{ace, aces_in, arith, get_or_default, inl, inr, length-map, named_at}
use Rattle.acl_normal.proofs.rows.RowNumbers.{numbered_all, numbered_next, numbered_none, place_within}
use Rattle.acl_normal.proofs.rows.numbers.rows_of.Goals as goal
use Rattle.acl_normal.proofs.rows.numbers.rows_of.Goals.{then-not-is_same, else-not-is_same}

pub loop-i-init : goal.loop-i-init
loop-i-init c =
    numbered_none (aces_in c.args.aces.now) (map (named_at (aces_in c.args.aces.now)) c.args.sorted.now)
    c.requires.names c.in_ok-rows.rows.items
    (omega (arith, c.in_ok-rows.ensures.len, length-map c.args.aces.now ace))

pub index_mut-requires : goal.index_mut-requires
index_mut-requires c =
    place_within (aces_in c.args.aces.now) c.args.sorted.now c.requires c.loop-i.rows.items c.loop-i.start c.loop-i.i
    c.loop-i.i c.loop-i.rows.len _ c.loop-i-test.true
    (get_or_default c.args.sorted.now c.loop-i.i _ _ c.loop-i-test.true) c.loop-i.rows.ok.0 c.loop-i.invariant

pub loop-i-preserved : goal.loop-i-preserved
loop-i-preserved c =
    numbered_next (aces_in c.args.aces.now) c.args.sorted.now c.requires c.loop-i.rows.items c.loop-i.start c.loop-i.i
    _ _ c.loop-i-test.true (get_or_default c.args.sorted.now c.loop-i.i _ _ c.loop-i-test.true)
    (get_or_default c.args.sorted.now c.loop-i.start _ _
    (omega (arith, c.loop-i-test.true, c.loop-i.invariant.before)))
    c.is_same.result c.is_same.ensures c.loop-i.invariant c.if-not-is_same.start
    (elim c.if-not-is_same.branch [
      | then-not-is_same w ↦ inr (w.if-not-is_same.true, w.start-is)
      | else-not-is_same w ↦ inl (w.if-not-is_same.false, w.start-is)
    ])

pub returns : goal.returns
returns c =
    numbered_all (aces_in c.args.aces.now) (map (named_at (aces_in c.args.aces.now)) c.args.sorted.now)
    c.requires.names c.loop-i.rows.items c.loop-i.start c.loop-i.i
    (omega (arith, c.loop-i-test.false, length-map c.args.sorted.now (named_at (aces_in c.args.aces.now))))
    c.loop-i.invariant
