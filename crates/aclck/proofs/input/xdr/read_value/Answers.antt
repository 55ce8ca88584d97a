use Rattle.std.proofs.Common.{◌∙◌, ◌+◌, ap, arith, length, refl}
use Rattle.acl_perm.specs.Profile.{profile_of}
use Rattle.acl_nfs4.proofs.Exports.{code_profile}
use Rattle.aclck.proofs.FeedLemmas.{fed_end, fed_more, fed_none, fed_nothing, fed_refused, fed_short, fed_short_value, fed_value}
use Rattle.aclck.proofs.input.xdr.read_value.Goals as goal

pub loop-feed-init : goal.loop-feed-init
loop-feed-init g c = record {
  fed = fed_nothing (profile_of c.args.profile) c.args.pulled.now (g.S.Source.remaining c.args.source.now)
      c.with_profile-feed.result c.with_profile-feed.ensures;
  same = refl;
}

pub overflow_add-fed : goal.overflow_add-fed
overflow_add-fed g c =
    let short = fed_short c.loop-feed.invariant.fed c.left.ensures.short in
    omega (arith, short, c.feed.ensures.within c.in-Done.taken c.in-Done.is, ap length c.left.ensures.is)

pub returns-in-Done-clause-value : goal.returns-in-Done-clause-value
returns-in-Done-clause-value g c =
    fed_value c.feed.new.self c.in-Done.taken c.loop-feed.invariant.fed c.left.ensures.is c.take.ensures
    c.in-Done.ensures.feeds c.finish.result c.finish.ensures.list

pub returns-in-Done-clause-short : goal.returns-in-Done-clause-short
returns-in-Done-clause-short g c =
    fed_short_value c.feed.new.self c.in-Done.taken c.loop-feed.invariant.fed c.left.ensures.is c.take.ensures
    c.in-Done.ensures.feeds c.finish.result c.finish.ensures.list

pub returns-in-Done-clause-none : goal.returns-in-Done-clause-none
returns-in-Done-clause-none g c =
    fed_none c.feed.new.self c.in-Done.taken c.loop-feed.invariant.fed c.left.ensures.is c.left.ensures.short
    c.left.ensures.bytes c.in-Done.ensures.feeds c.finish.result c.finish.ensures.fault

pub returns-in-Refused-clause-none : goal.returns-in-Refused-clause-none
returns-in-Refused-clause-none g c =
    fed_refused c.feed.new.self (code_profile c.args.profile (omega arith)) c.loop-feed.invariant.fed c.left.ensures.is
    c.left.ensures.short c.left.ensures.bytes c.in-Refused.ensures.feeds c.from.ensures

pub overflow_add-fed-in-loop-feed : goal.overflow_add-fed-in-loop-feed
overflow_add-fed-in-loop-feed g c =
    omega (arith, fed_short c.loop-feed.invariant.fed c.left.ensures.short, ap length c.left-in-loop-feed.ensures.is)

pub returns-then-not-branch-clause-none : goal.returns-then-not-branch-clause-none
returns-then-not-branch-clause-none g c =
    fed_end _ c.feed.new.self c.loop-feed.invariant.fed c.left.ensures.is c.left.ensures.bytes c.in-More.ensures.feeds
    c.in_ok-pull.ensures.given (c.in_ok-pull.ensures.end c.if-not-branch.true) c.finish-then-not-branch.result
    c.finish-then-not-branch.ensures.fault

pub loop-feed-smaller : goal.loop-feed-smaller
loop-feed-smaller g c =
    let short = fed_short c.loop-feed.invariant.fed c.left.ensures.short in
    omega (arith, short, c.in_ok-pull.ensures.some c.if-not-branch.false, ap length c.left-in-loop-feed.ensures.is)

pub loop-feed-preserved : goal.loop-feed-preserved
loop-feed-preserved g c = record {
  fed = fed_more c.loop-feed.invariant.fed c.left.ensures.is c.left.ensures.bytes c.in-More.ensures.feeds
      c.in_ok-pull.ensures.given (ap (λ n. c.loop-feed.fed + n) (ap length c.left-in-loop-feed.ensures.is));
  same = ◌∙◌ {b = g.S.Source.failure_count c.loop-feed.source} c.in_ok-pull.ensures.reads c.loop-feed.invariant.same;
}
