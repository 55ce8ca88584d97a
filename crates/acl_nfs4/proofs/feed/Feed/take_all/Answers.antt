use Rattle.acl_nfs4.proofs.Common.{ap, arith, length}
use Rattle.acl_nfs4.proofs.feed.Held.{taken_within}
use Rattle.acl_nfs4.proofs.feed.Pieces.{end_chunk, end_rest, more_piece}
use Rattle.acl_nfs4.proofs.feed.Feed.take_all.Goals as goal

pub loop-taken-preserved : goal.loop-taken-preserved
loop-taken-preserved c = record {
  inside = let h = c.loop-taken-test.true in omega arith;
  so_far = more_piece c.args.self.now c.loop-taken.self c.take.new.self c.args.piece.now c.loop-taken.taken 4096
      c.split_at.ensures.back c.split_at-in-loop-taken.ensures.front c.loop-taken.invariant.so_far c.in-More.ensures;
}

pub behind-requires : goal.behind-requires
behind-requires c = λ taken e.
    let inside = taken_within c.loop-taken.self _ c.take.result c.take.new.self c.take.ensures taken e in
    omega (arith, ap length c.split_at-in-loop-taken.ensures.front, ap length c.split_at.ensures.back)

pub returns-in_default : goal.returns-in_default
returns-in_default c = rw c.behind.ensures (end_chunk c.args.self.now c.loop-taken.self c.take.new.self c.args.piece.now
    c.loop-taken.taken 4096 c.take.result c.loop-taken.invariant.inside c.split_at.ensures.back
    c.split_at-in-loop-taken.ensures.front c.split_at-in-loop-taken.ensures.back c.loop-taken.invariant.so_far
    c.in_default.not-More c.take.ensures)

pub behind-requires-2 : goal.behind-requires-2
behind-requires-2 c = λ taken e.
    let inside = taken_within c.loop-taken.self _ c.take-2.result c.take-2.new.self c.take-2.ensures taken e in
    omega (arith, ap length c.split_at-2.ensures.back)

pub returns : goal.returns
returns c = rw c.behind-2.ensures (end_rest c.args.self.now c.loop-taken.self c.take-2.new.self c.args.piece.now
    c.loop-taken.taken c.take-2.result c.loop-taken.invariant.inside c.split_at-2.ensures.back
    c.loop-taken.invariant.so_far c.take-2.ensures)
