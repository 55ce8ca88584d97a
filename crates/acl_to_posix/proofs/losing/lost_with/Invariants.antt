use Rattle.std.proofs.Common.{drop}
use Rattle.acl_to_posix.specs.internal.LossBody.{AreKeptWith, search_of}
use Rattle.acl_to_posix.proofs.losing.lost_with.Given as goal

-- if nothing is lost with the tags that are left, nothing is lost
abbrev pub invariant-loop-one : goal.invariant-loop-one
invariant-loop-one l = AreKeptWith (search_of l.wanted l.acl l.unused) l.denied (drop l.one-index l.firsts) l.seconds
    → AreKeptWith (search_of l.wanted l.acl l.unused) l.denied l.firsts l.seconds
