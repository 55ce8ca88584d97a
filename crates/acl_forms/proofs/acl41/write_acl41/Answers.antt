use Rattle.std.proofs.Common.{arith}
use Rattle.acl_forms.proofs.Acl41Lemmas.{bytes_short}
use Rattle.acl_forms.proofs.acl41.write_acl41.Goals as goal

pub overflow_add-result : goal.overflow_add-result
overflow_add-result g c =
    omega (arith, c.in-Err.ensures.written.short, bytes_short c.args.list.now c.encode.ensures.again.accepted)
