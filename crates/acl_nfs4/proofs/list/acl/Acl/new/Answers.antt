use Rattle.acl_nfs4.proofs.list.Push.{owned_none, none_is}
use Rattle.acl_nfs4.proofs.list.acl.Acl.new.Goals as goal

pub invariant_of-result : goal.invariant_of-result
invariant_of-result c = owned_none c.new.result.items c.new.ensures.items

pub returns : goal.returns
returns c = none_is c.new.result.items c.new.ensures.items
