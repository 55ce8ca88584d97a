use Rattle.std.proofs.Common.{arith, sym}
use Rattle.acl_forms.proofs.NfsWrites.{digits_short}
use Rattle.acl_forms.proofs.nfs_text.writer.add_id.Goals as goal

pub add-requires : goal.add-requires
add-requires c =
    omega (arith, c.push.ensures.len, c.requires, digits_short c.args.who.now _ (sym c.in-Some.ensures))

pub returns-in-Some-clause-len : goal.returns-in-Some-clause-len
returns-in-Some-clause-len c =
    omega (arith, c.push.ensures.len, c.add.ensures.len, digits_short c.args.who.now _ (sym c.in-Some.ensures))
