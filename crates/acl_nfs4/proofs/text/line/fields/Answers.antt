use Rattle.std.proofs.Common.{arith}
use Rattle.acl_nfs4.proofs.text.AceFields.{cut_len}
use Rattle.acl_nfs4.proofs.text.line.fields.Goals as goal

pub returns-clause-fits : goal.returns-clause-fits
returns-clause-fits c =
    let first_cut = cut_len c.args.line.now _ _ c.in_ok-kind.ensures in
    let second_cut = cut_len c.in_ok-kind.kind.rest.now _ _ c.in_ok-flags.ensures in
    let third_cut = cut_len c.in_ok-flags.flags.rest.now _ _ c.in_ok-mask.ensures in
    omega (arith, first_cut, second_cut, third_cut)
