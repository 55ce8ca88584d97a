use Rattle.acl_nfs4.proofs.Common.{arith, profile_of}
use Rattle.acl_nfs4.proofs.list.Within.{fits_means, code_profile}
use Rattle.acl_nfs4.proofs.xdr.view.AclView.fits.Goals as goal

pub returns-clause-accepted : goal.returns-clause-accepted
returns-clause-accepted c =
    fits_means (profile_of c.args.profile) c.aces.result c.args.self.now c.fit.result
    (code_profile c.args.profile (omega arith)) c.aces.ensures.same c.aces.ensures.accepted c.fit.ensures
