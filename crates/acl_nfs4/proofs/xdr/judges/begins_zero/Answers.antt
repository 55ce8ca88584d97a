use Rattle.std.proofs.lemmas.Bool.{eqb-true}
use Rattle.acl_nfs4.proofs.xdr.ZeroFront.{zero_front}
use Rattle.acl_nfs4.proofs.xdr.judges.begins_zero.Goals as goal

pub returns : goal.returns
returns c = λ zero. zero_front c.args.bytes.now c.args.n c.read_u32.result c.low_bytes.result
    (λ i. (c.type_inv.bytes i).fits) c.requires.word c.requires.few c.read_u32.ensures c.low_bytes.ensures
    (eqb-true _ 0 zero)
