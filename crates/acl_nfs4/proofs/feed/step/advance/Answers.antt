use Rattle.acl_nfs4.proofs.Common.{Ace, aces_of, ap, arith, body_in, Judged, length, List, profile_of, Some, subst, sym, take, Xdr, ℕ, ◌++◌, ◌+◌, ◌-◌, ◌≡◌, ◌≤◌}
use Rattle.acl_nfs4.specs.Stream.{done}
use Rattle.acl_nfs4.proofs.feed.Streaming.{ended, judged_whole, progress_grows}
use Rattle.acl_nfs4.proofs.list.Within.{code_profile}
use Rattle.acl_nfs4.proofs.feed.step.advance.Goals as goal

pub judge-reach-requires : goal.judge-reach-requires
judge-reach-requires c = rw c.in-Ok.ensures
    (progress_grows (profile_of c.args.profile) c.args.text.now c.args.piece.now c.args.from c.requires.progress)

pub overflow_sub-result : goal.overflow_sub-result
overflow_sub-result c =
    let e = ended (profile_of c.args.profile) c.args.text.now c.args.piece.now c.extend.new.self
    c.judge-reach.result.progress _ (code_profile c.args.profile (omega arith)) c.in-Ok.ensures
    c.judge-reach.ensures.judged c.in-None.is c.requires.cut in
    subst (λ (k : ℕ). k ≤ 4 + c.judge-reach.result.progress.used) (sym c.len-before.ensures) e.after

pub returns-in-None-clause-feeds : goal.returns-in-None-clause-feeds
returns-in-None-clause-feeds c =
    let e = ended (profile_of c.args.profile) c.args.text.now c.args.piece.now c.extend.new.self
    c.judge-reach.result.progress _ (code_profile c.args.profile (omega arith)) c.in-Ok.ensures
    c.judge-reach.ensures.judged c.in-None.is c.requires.cut in
    let n : length c.args.text.now ≡ c.len-before.result = sym c.len-before.ensures in
    let list : List Ace =
    aces_of c.judge-reach.result.progress.seen (body_in c.extend.new.self c.judge-reach.result.progress) in (
      list,
      ap (λ (t : List ℕ). done (aces_of c.judge-reach.result.progress.seen t)) c.cut.ensures,
      subst (λ (k : ℕ). 4 + c.judge-reach.result.progress.used - k ≤ length c.args.piece.now) n e.within,
      subst (λ (k : ℕ). Xdr (profile_of c.args.profile) list
          (c.args.text.now ++ take (4 + c.judge-reach.result.progress.used - k) c.args.piece.now)) n e.xdr,
    )

pub returns-in-Truncated-clause-feed : goal.returns-in-Truncated-clause-feed
returns-in-Truncated-clause-feed c =
    let j : Judged (profile_of c.args.profile) c.extend.new.self c.judge-reach.result.progress (Some c.in-Some.fault) =
    rw c.in-Some.is at c.judge-reach.ensures.judged in
    record {
      profile = code_profile c.args.profile (omega arith);
      cut = j;
      why = c.in-Truncated.is;
      progress = c.judge-reach.ensures.progress;
    }

pub overflow_add-result : goal.overflow_add-result
overflow_add-result c =
    let whole = judged_whole (profile_of c.args.profile) c.extend.new.self c.judge-reach.result.progress _
    c.judge-reach.ensures.judged c.in-None.is in
    omega (arith, whole.inside, c.judge-reach.ensures.fits)
