use Rattle.acl_nfs4.specs.Ace.{ace}
use Rattle.acl_change.proofs.ResolvedLists.{is_for_user}
use Rattle.acl_change.proofs.resolving.for_user.Goals as goal

pub returns : goal.returns
returns c = is_for_user c.args.name.now (ace c.args.item) c.difference.result.bits c.difference.ensures.meaning
