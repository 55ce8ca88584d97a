use Rattle.acl_nfs4.proofs.Common.{ap, first_name, rights, ◌∙◌}
use Rattle.acl_nfs4.proofs.names.Tables.{name_spells}
use Rattle.acl_nfs4.proofs.names.rights.bit_name.Goals as goal

pub returns-clause-named : goal.returns-clause-named
returns-clause-named c = name_spells c.first_name.result c.args.right.bits
    (c.first_name.ensures ∙ ap (first_name rights) c.bits.ensures.value)
