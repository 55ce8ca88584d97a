use Rattle.std.proofs.Common.{◌∙◌, ap}
use Rattle.acl_nfs4.specs.Renamed.{rows}
use Rattle.aclck_c.proofs.Renaming.{names_made}
use Rattle.aclck_c.proofs.nfs4.renamed.renamed.Goals as goal

pub returns-clause-ok : goal.returns-clause-ok
returns-clause-ok c = names_made _ _ _ _ _ _ _ _ c.in_ok-view.ensures.found c.in_ok-table.ensures.0
    (ap rows c.deref.ensures.value ∙ c.in_ok-table.ensures.1) c.in_ok-list.ensures.may c.in_ok-list.ensures.ok
    c.in_ok-to_bytes.ensures
