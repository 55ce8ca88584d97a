use Rattle.acl_forms.proofs.PartWords.{any_who_is}
use Rattle.acl_forms.proofs.part.any_ace.who_of.Goals as goal

pub unless_unknown-requires-clause-some : goal.unless_unknown-requires-clause-some
unless_unknown-requires-clause-some c = (any_who_is c.args.name.now c.in-Ok.who.now c.requires c.in-Ok.ensures).long

pub unless_unknown-requires-clause-any : goal.unless_unknown-requires-clause-any
unless_unknown-requires-clause-any c = any_who_is c.args.name.now c.in-Ok.who.now c.requires c.in-Ok.ensures

pub returns-in-Ok-clause-exact : goal.returns-in-Ok-clause-exact
returns-in-Ok-clause-exact c = rw c.in-Ok.ensures c.unless_unknown.ensures.exact
