use Rattle.std.proofs.Common.{◌≡◌, ◌+◌, ◌-◌, ◌^◌, length}
use Rattle.acl_perm.specs.Profile.{profile_of}
use Rattle.aclck.proofs.FeedLemmas.{IsFed}
use Rattle.aclck.proofs.input.xdr.read_value.Given as goal

-- the feed has taken what came, except for what is left of the last pull, and no call failed
abbrev pub invariant-loop-feed : goal.invariant-loop-feed
invariant-loop-feed g l = record {
  fed : IsFed (profile_of l.fn.profile) l.fn.pulled l.pulled (g.S.Source.remaining l.fn.source)
      (g.S.Source.remaining l.source) l.feed l.fed;
  same : g.S.Source.failure_count l.source ≡ g.S.Source.failure_count l.fn.source;
}

abbrev pub decreases-loop-feed : goal.decreases-loop-feed
decreases-loop-feed g l = 2 ^ 33 - (l.fed + length l.pulled)
