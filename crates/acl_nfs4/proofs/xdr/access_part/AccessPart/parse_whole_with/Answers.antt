use Rattle.acl_nfs4.proofs.Common.{arith, profile_of}
use Rattle.acl_nfs4.proofs.list.Within.{code_profile}
use Rattle.acl_nfs4.proofs.xdr.AnyLists.{part_found, part_only}
use Rattle.acl_nfs4.proofs.xdr.PartFaults.{part_fault, part_refused}
use Rattle.acl_nfs4.proofs.xdr.access_part.AccessPart.parse_whole_with.Goals as goal

pub returns-clause-found : goal.returns-clause-found
returns-clause-found c =
    part_found (profile_of c.args.profile) c.args.bytes.now (code_profile c.args.profile (omega arith))
    (λ i. omega (arith, c.type_inv.bytes i)) c.whole_part.result c.whole_part.ensures

pub returns-clause-only : goal.returns-clause-only
returns-clause-only c =
    part_only (profile_of c.args.profile) c.args.bytes.now (code_profile c.args.profile (omega arith))
    (λ i. omega (arith, c.type_inv.bytes i)) c.whole_part.result c.whole_part.ensures

pub returns-clause-fault : goal.returns-clause-fault
returns-clause-fault c =
    part_fault (profile_of c.args.profile) c.args.bytes.now (code_profile c.args.profile (omega arith))
    (λ i. omega (arith, c.type_inv.bytes i)) c.whole_part.result c.whole_part.ensures

pub returns-clause-refused : goal.returns-clause-refused
returns-clause-refused c =
    part_refused (profile_of c.args.profile) c.args.bytes.now (code_profile c.args.profile (omega arith))
    (λ i. omega (arith, c.type_inv.bytes i)) c.whole_part.result c.whole_part.ensures
