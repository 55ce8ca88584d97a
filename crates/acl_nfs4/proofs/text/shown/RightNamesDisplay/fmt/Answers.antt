use Rattle.acl_nfs4.proofs.Common.{◌∙◌}
use Rattle.acl_nfs4.proofs.names.Shown.{mask_text}
use Rattle.acl_nfs4.proofs.text.shown.RightNamesDisplay.fmt.Goals as goal

pub returns-clause-writes : goal.returns-clause-writes
returns-clause-writes g c =
    let e = mask_text c.deref.result.now c.as_text.result.now c.args.self.now.mask.bits
    (c.deref.ensures.0 ∙ c.rights_text.ensures) c.as_text.ensures in
    rw e at c.write_str.ensures.writes
