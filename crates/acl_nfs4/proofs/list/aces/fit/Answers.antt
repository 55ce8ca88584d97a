use Rattle.acl_nfs4.proofs.Common.{ace, profile_of, refl}
use Rattle.acl_nfs4.proofs.list.Within.{first_fits, first_misses}
use Rattle.acl_nfs4.proofs.list.aces.fit.Goals as goal

pub returns-then-not-fits_ace : goal.returns-then-not-fits_ace
returns-then-not-fits_ace c =
    let misses = first_misses (profile_of c.args.profile) (ace c.in-Some.ace) c.args.aces c.loop-ace.ace-iterator
    c.next.new.self c.in-Some.ensures.steps.0 (λ w. let h = c.if-not-fits_ace.ensures.1 w in absurd cc)
    c.loop-ace.invariant.2 in
    (λ e. absurd cc, λ f. absurd (misses f))

pub loop-ace-preserved : goal.loop-ace-preserved
loop-ace-preserved c = (
  tt,
  tt,
  first_fits (profile_of c.args.profile) (ace c.in-Some.ace) c.args.aces c.loop-ace.ace-iterator c.next.new.self
      c.in-Some.ensures.steps.0 (c.if-not-fits_ace.ensures.0 refl) c.loop-ace.invariant.2,
)
