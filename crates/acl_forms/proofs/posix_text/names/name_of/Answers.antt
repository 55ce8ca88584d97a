use Rattle.std.proofs.Common.{arith}
use Rattle.acl_forms.proofs.NamesOfIds.{got_id}
use Rattle.acl_forms.proofs.posix_text.names.name_of.Goals as goal

pub returns-in-Some : goal.returns-in-Some
returns-in-Some c =
    let same = got_id c.args.id c.args.names.now.entries c.get.result c.get.ensures.value in
    grind (arith, same, c.in-Some.is, c.deref.ensures.value)

pub returns-in-None : goal.returns-in-None
returns-in-None c =
    let same = got_id c.args.id c.args.names.now.entries c.get.result c.get.ensures.value in
    grind (arith, same, c.in-None.is)
