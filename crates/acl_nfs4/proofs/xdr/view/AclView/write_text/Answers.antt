use Rattle.acl_perm.specs.Profile.{full}
use Rattle.acl_nfs4.proofs.text.AceWritten.{reads_back}
use Rattle.acl_nfs4.proofs.list.Within.{full_is}
use Rattle.acl_nfs4.proofs.xdr.view.AclView.write_text.Goals as goal

pub returns-clause-again : goal.returns-clause-again
returns-clause-again g c = λ other. reads_back full c.args.self.now other full_is c.aces.ensures.accepted

pub returns-in_err-put_lines-clause-again : goal.returns-in_err-put_lines-clause-again
returns-in_err-put_lines-clause-again g c =
    λ other. reads_back full c.args.self.now other full_is c.aces.ensures.accepted
