use Rattle.acl_nfs4.specs.Fault.{HasWholeFault}
use Rattle.acl_nfs4.proofs.Common.{arith, profile_of}
use Rattle.acl_nfs4.proofs.list.Within.{code_profile}
use Rattle.acl_nfs4.proofs.xdr.AcesAt.{first_is_read}
use Rattle.acl_nfs4.proofs.xdr.ace_at.first_ace.Goals as goal

pub returns-clause-fault : goal.returns-clause-fault
returns-clause-fault c =
    first_is_read (profile_of c.args.profile) c.args.bytes.now (code_profile c.args.profile (omega arith))
    (λ i. omega (arith, c.type_inv.bytes i)) (HasWholeFault (profile_of c.args.profile) c.args.bytes.now)
    c.in_ok-parse_whole_with.field-0 c.ace_from.result c.in_ok-parse_whole_with.ensures.found c.ace_from.ensures
