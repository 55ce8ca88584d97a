use Rattle.acl_nfs4.proofs.Common.{is_name_of, refl}
use Rattle.acl_nfs4.proofs.names.Tables.{row_found}
use Rattle.acl_nfs4.proofs.names.bit_names.bit_in.Goals as goal

pub returns-in_err-row_named : goal.returns-in_err-row_named
returns-in_err-row_named c = rw (
  c.from_residual.ensures,
  ← row_found (is_name_of c.args.word.now) c.args.table.now,
  ← c.in_err-row_named.ensures,
) refl

pub returns : goal.returns
returns c = rw (← row_found (is_name_of c.args.word.now) c.args.table.now, ← c.in_ok-row_named.ensures) refl
