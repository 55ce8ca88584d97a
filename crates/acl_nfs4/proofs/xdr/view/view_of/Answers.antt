use Rattle.acl_nfs4.proofs.Common.{ap, arith, length, profile_of}
use Rattle.acl_nfs4.proofs.feed.Streaming.{judged_whole}
use Rattle.acl_nfs4.proofs.xdr.view.view_of.Goals as goal

pub returns-in-Some-clause-fault : goal.returns-in-Some-clause-fault
returns-in-Some-clause-fault c = rw c.in-Some.is at c.judge-reach.ensures

pub split_at-requires : goal.split_at-requires
split_at-requires c =
    let w = judged_whole (profile_of c.args.profile) c.args.bytes.now c.judge-reach.result.progress _
    c.judge-reach.ensures c.in-None.is in omega arith

pub split_at-requires-in-None : goal.split_at-requires-in-None
split_at-requires-in-None c =
    let w = judged_whole (profile_of c.args.profile) c.args.bytes.now c.judge-reach.result.progress _
    c.judge-reach.ensures c.in-None.is in
    omega (arith, ap length c.split_at.ensures.back)

pub invariant_of-result : goal.invariant_of-result
invariant_of-result c =
    let w = judged_whole (profile_of c.args.profile) c.args.bytes.now c.judge-reach.result.progress _
    c.judge-reach.ensures c.in-None.is in
    rw (c.split_at-in-None.ensures.front, c.split_at.ensures.back)
    (record { body = w.owned.spells; small = w.owned.small })

pub returns-in-None-clause-found : goal.returns-in-None-clause-found
returns-in-None-clause-found c =
    let w = judged_whole (profile_of c.args.profile) c.args.bytes.now c.judge-reach.result.progress _
    c.judge-reach.ensures c.in-None.is in
    (w.inside, rw (c.split_at-in-None.ensures.front, c.split_at.ensures.back) w.xdr)
