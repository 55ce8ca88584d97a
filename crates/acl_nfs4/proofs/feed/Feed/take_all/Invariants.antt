use Rattle.acl_nfs4.proofs.Common.{HasTaken, length, take, ◌-◌, ◌≤◌}
use Rattle.acl_nfs4.proofs.feed.Feed.take_all.Given as goal

-- the feed has taken the first bytes of the piece
abbrev pub invariant-loop-taken : goal.invariant-loop-taken
invariant-loop-taken l = record {
  inside : l.taken ≤ length l.piece;
  so_far : HasTaken l.fn.self (take l.taken l.piece) l.self;
}

abbrev pub decreases-loop-taken : goal.decreases-loop-taken
decreases-loop-taken l = length l.piece - l.taken
