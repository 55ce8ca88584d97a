use Rattle.acl_nfs4.proofs.Common.{◌∙◌}
use Rattle.acl_nfs4.proofs.xdr.SuffixedNames.{account_with_room}
use Rattle.acl_nfs4.proofs.who.is_account_after.Goals as goal

pub returns-then-suffix-name : goal.returns-then-suffix-name
returns-then-suffix-name c =
    c.is_text_suffix.ensures
    ∙ account_with_room c.args.name.now c.args.suffix.now c.requires.any c.requires.unknown c.if-suffix-name.true
