use Rattle.std.proofs.Common.{◌∙◌, ap}
use Rattle.acl_perm.specs.Principal.{Principal}
use Rattle.acl_nfs4.specs.Ace.{ace}
use Rattle.acl_ids.specs.Ids.{principal_id}
use Rattle.acl_prepared.specs.Prepared.{sort_number}
use Rattle.acl_prepared.specs.internal.IdsBody.{id_or_zero}
use Rattle.acl_prepared.proofs.IdParts.{number_with_id}
use Rattle.acl_prepared.proofs.id_ace.number_of_ace.Goals as goal

pub returns : goal.returns
returns c =
    number_with_id c.args.names.now (ace c.args.item.now) c.bits.result c.sort_of-sort.result c.id_or_zero-id.result
    c.requires c.bits.ensures.value
    (c.sort_of-sort.ensures.value
    ∙ ap (λ (p : Principal). sort_number p c.args.item.now.kind) c.principal-whom.ensures)
    (c.id_or_zero-id.ensures ∙ ap id_or_zero
    (c.principal_id.ensures ∙ ap (principal_id c.args.names.now) c.principal-whom.ensures))
