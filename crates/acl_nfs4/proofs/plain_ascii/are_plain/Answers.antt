use Rattle.std.proofs.lemmas.Bool.{eqb-true}
use Rattle.acl_nfs4.proofs.plain_ascii.PlainLanes.{plain_where_none}
use Rattle.acl_nfs4.proofs.plain_ascii.are_plain.Goals as goal

pub returns : goal.returns
returns g c = λ none. plain_where_none c.args.bytes.now c.args.at g.row.N c.type_inv.bytes c.requires.lanes
    c.requires.inside (eqb-true _ 0 none)
