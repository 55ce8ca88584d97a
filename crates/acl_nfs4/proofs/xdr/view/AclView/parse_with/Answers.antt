use Rattle.acl_nfs4.proofs.Common.{arith, rules}
use Rattle.acl_nfs4.proofs.list.Within.{code_profile}
use Rattle.acl_nfs4.proofs.xdr.OneFault.{found_only, found_refused}
use Rattle.acl_nfs4.proofs.xdr.view.AclView.parse_with.Goals as goal

pub returns-clause-only : goal.returns-clause-only
returns-clause-only c = let ok = code_profile c.args.profile (omega arith) in search (rules, found_only)

pub returns-clause-refused : goal.returns-clause-refused
returns-clause-refused c = let ok = code_profile c.args.profile (omega arith) in search (rules, found_refused)
