use Rattle.std.proofs.Common.{drop}
use Rattle.acl_to_posix.specs.internal.LossBody.{AreKeptWithOne, search_of}
use Rattle.acl_to_posix.proofs.losing.lost_with_one.Given as goal

-- if nothing is lost with the tags that are left, nothing is lost
abbrev pub invariant-loop-two : goal.invariant-loop-two
invariant-loop-two l = AreKeptWithOne (search_of l.wanted l.acl l.unused) l.denied l.one (drop l.two-index l.seconds)
    → AreKeptWithOne (search_of l.wanted l.acl l.unused) l.denied l.one l.seconds
