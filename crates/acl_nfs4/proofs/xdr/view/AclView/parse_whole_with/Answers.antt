use Rattle.acl_nfs4.proofs.Common.{arith, profile_of, rules}
use Rattle.acl_nfs4.proofs.list.Within.{code_profile}
use Rattle.acl_nfs4.proofs.xdr.OneFault.{whole_only, whole_refused}
use Rattle.acl_nfs4.proofs.xdr.view.AclView.parse_whole_with.Goals as goal

pub returns-clause-only : goal.returns-clause-only
returns-clause-only c = whole_only (profile_of c.args.profile) c.args.bytes.now
    (code_profile c.args.profile (omega arith)) c.whole_of.result c.whole_of.ensures.found c.whole_of.ensures.fault

pub returns-clause-refused : goal.returns-clause-refused
returns-clause-refused c = let ok = code_profile c.args.profile (omega arith) in search (rules, whole_refused)
