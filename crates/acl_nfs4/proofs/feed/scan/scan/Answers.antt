use Rattle.acl_nfs4.proofs.Common.{ace, arith, place, profile_of}
use Rattle.acl_nfs4.proofs.feed.Scanning.{scans_one_more, place_is}
use Rattle.acl_nfs4.proofs.list.Within.{code_profile}
use Rattle.acl_nfs4.proofs.feed.scan.scan.Goals as goal

pub overflow_sub-progress : goal.overflow_sub-progress
overflow_sub-progress c =
    let s = scans_one_more (profile_of c.args.profile) c.args.body.now c.loop-progress.progress (ace c.in-Ok.ace) _
    (place c.next_ace.new.cursor) (code_profile c.args.profile (omega arith)) (λ i. omega (arith, c.type_inv.body i))
    c.loop-progress.invariant.scanned c.loop-progress.invariant.here c.in-Ok.ensures.exact in
    s.inside

pub loop-progress-preserved : goal.loop-progress-preserved
loop-progress-preserved c =
    let s = scans_one_more (profile_of c.args.profile) c.args.body.now c.loop-progress.progress (ace c.in-Ok.ace) _
    (place c.next_ace.new.cursor) (code_profile c.args.profile (omega arith)) (λ i. omega (arith, c.type_inv.body i))
    c.loop-progress.invariant.scanned c.loop-progress.invariant.here c.in-Ok.ensures.exact in
    rw c.bits.ensures.value (record {
      scanned = s.scanned;
      seen = let h = c.loop-progress-test.true in omega arith;
      here = place_is (place c.next_ace.new.cursor) _ _ s.here s.rest;
    })
