use Rattle.std.specs.Prelude.{map}
use Rattle.acl_nfs4.proofs.Exits.{exit_is}
use Rattle.acl_forms.proofs.PosixLemmas.{default_found, list_refused, parts_refused}
use Rattle.acl_forms.proofs.TextLemmas.{held_read}
use Rattle.acl_forms.specs.internal.PosixReading.{placed}
use Rattle.acl_forms.proofs.posix_text.reader.read_default.Goals as goal

pub returns-in_err-read-clause-fault : goal.returns-in_err-read-clause-fault
returns-in_err-read-clause-fault c =
    rw (exit_is c.from_residual-in_err-read.result c.from_residual-in_err-read.ensures.1)
    (parts_refused c.args.names.now c.args.text.now c.in_err-read.field-0.0 c.in_err-read.ensures)

pub returns-clause-found : goal.returns-clause-found
returns-clause-found c =
    default_found c.args.names.now c.args.text.now (map placed c.in_ok-read.read.items) c.acl_of.result
    (held_read (map placed c.in_ok-read.read.items) _ c.in_ok-read.ensures)
    (rw c.deref.ensures.value at c.acl_of.ensures.acl)

pub returns-clause-fault : goal.returns-clause-fault
returns-clause-fault c =
    list_refused c.args.names.now c.args.text.now (map placed c.in_ok-read.read.items) c.acl_of.result
    (held_read (map placed c.in_ok-read.read.items) _ c.in_ok-read.ensures)
    (rw c.deref.ensures.value at c.acl_of.ensures.fault)
