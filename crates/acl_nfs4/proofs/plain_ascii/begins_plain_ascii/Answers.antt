use Rattle.acl_nfs4.proofs.Common.{arith, leb-true}
use Rattle.acl_nfs4.proofs.plain_ascii.PlainLanes.{plain_front, plain_front_whole}
use Rattle.acl_nfs4.proofs.plain_ascii.begins_plain_ascii.Goals as goal

pub returns : goal.returns
returns c = λ behind. plain_front_whole c.args.bytes.now c.args.len c.requires
    (plain_front c.args.bytes.now 16 c.args.len c.type_inv.bytes (omega arith) (omega arith) (omega arith)
    (leb-true _ _ behind))
