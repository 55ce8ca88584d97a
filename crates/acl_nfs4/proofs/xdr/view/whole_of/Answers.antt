use Rattle.acl_nfs4.proofs.Common.{of_value, profile_of}
use Rattle.acl_nfs4.proofs.Exits.{exit_is}
use Rattle.acl_nfs4.proofs.xdr.OneFault.{byte_after_list}
use Rattle.acl_nfs4.proofs.xdr.view.whole_of.Goals as goal

pub returns-in_err-view-clause-fault : goal.returns-in_err-view-clause-fault
returns-in_err-view-clause-fault c =
    rw (exit_is c.from_residual.result c.from_residual.ensures.1) (of_value _ _ c.in_err-view.ensures.fault)

pub returns-then-len-bytes-clause-fault : goal.returns-then-len-bytes-clause-fault
returns-then-len-bytes-clause-fault c =
    byte_after_list (profile_of c.args.profile) c.args.bytes.now c.in_ok-view.view c.in_ok-view.len c.if-len-bytes.true
    c.in_ok-view.ensures.found.1
