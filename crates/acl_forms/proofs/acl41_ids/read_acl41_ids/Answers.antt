use Rattle.std.proofs.Common.{arith}
use Rattle.acl_forms.proofs.IdFaults.{ids_fault, ids_refused}
use Rattle.acl_forms.proofs.IdLemmas.{ids_found, ids_only}
use Rattle.acl_forms.proofs.acl41_ids.read_acl41_ids.Goals as goal

pub returns-clause-found : goal.returns-clause-found
returns-clause-found c = ids_found c.args.bytes.now (λ i. omega (arith, c.type_inv.bytes i)) c.read_whole.result
    c.read_whole.ensures

pub returns-clause-only : goal.returns-clause-only
returns-clause-only c = ids_only c.args.bytes.now (λ i. omega (arith, c.type_inv.bytes i)) c.read_whole.result
    c.read_whole.ensures

pub returns-clause-fault : goal.returns-clause-fault
returns-clause-fault c = ids_fault c.args.bytes.now (λ i. omega (arith, c.type_inv.bytes i)) c.read_whole.result
    c.read_whole.ensures

pub returns-clause-refused : goal.returns-clause-refused
returns-clause-refused c = ids_refused c.args.bytes.now c.read_whole.result c.read_whole.ensures
