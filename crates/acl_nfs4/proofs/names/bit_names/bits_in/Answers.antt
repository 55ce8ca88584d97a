use Rattle.acl_nfs4.proofs.Common.{bit_names_of, or_zero_r}
use Rattle.acl_nfs4.proofs.names.SetFields.{next_left}
use Rattle.acl_nfs4.proofs.names.bit_names.bits_in.Goals as goal

pub loop-rest-preserved : goal.loop-rest-preserved
loop-rest-preserved c = next_left (bit_names_of c.args.table.now) c.loop-rest.bits c.in_ok-bits.field-0
    c.cut-first.ensures c.in_ok-bits.ensures (rw c.in-Some.is at c.loop-rest.invariant)

pub returns : goal.returns
returns c = rw (c.in_default.is, or_zero_r c.loop-rest.bits) at c.loop-rest.invariant
