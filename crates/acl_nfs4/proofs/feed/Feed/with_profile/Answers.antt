use Rattle.acl_nfs4.proofs.Common.{arith, profile_of, refl}
use Rattle.acl_nfs4.proofs.feed.Streaming.{text_short, no_progress}
use Rattle.acl_nfs4.proofs.list.Within.{code_profile}
use Rattle.acl_nfs4.proofs.feed.Feed.with_profile.Goals as goal

pub invariant_of-result : goal.invariant_of-result
invariant_of-result c = rw (c.new.ensures, c.at_front.ensures) (record {
  profile = code_profile c.args.profile (omega arith);
  cut = text_short (profile_of c.args.profile) _ (omega arith);
  why = refl;
  progress = no_progress (profile_of c.args.profile) _;
})
