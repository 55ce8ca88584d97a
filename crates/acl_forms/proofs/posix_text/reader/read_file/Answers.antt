use Rattle.std.specs.Prelude.{map}
use Rattle.acl_nfs4.proofs.Exits.{exit_is}
use Rattle.acl_forms.proofs.PosixLemmas.{access_refused, default_refused, entries_refused, file_found}
use Rattle.acl_forms.proofs.TextLemmas.{held_read}
use Rattle.acl_forms.specs.internal.PosixReading.{placed}
use Rattle.acl_forms.proofs.posix_text.reader.read_file.Goals as goal

pub returns-in_err-read-clause-fault : goal.returns-in_err-read-clause-fault
returns-in_err-read-clause-fault c =
    rw (exit_is c.from_residual-in_err-read.result c.from_residual-in_err-read.ensures.1)
    (entries_refused c.args.names.now c.args.text.now c.in_err-read.field-0.0 c.in_err-read.ensures)

pub returns-in_err-access-clause-fault : goal.returns-in_err-access-clause-fault
returns-in_err-access-clause-fault c =
    rw (exit_is c.from_residual-in_err-access.result c.from_residual-in_err-access.ensures.1)
    (access_refused c.args.names.now c.args.text.now (map placed c.in_ok-read.read.items)
    (map placed c.in_ok-members.members.items) c.in_err-access.field-0.0
    (held_read (map placed c.in_ok-read.read.items) _ c.in_ok-read.ensures)
    (rw c.deref.ensures.value at c.in_ok-members.ensures) (rw c.deref-2.ensures.value at c.in_err-access.ensures.fault))

pub returns-in_err-default-clause-fault : goal.returns-in_err-default-clause-fault
returns-in_err-default-clause-fault c =
    rw (exit_is c.from_residual-in_err-default.result c.from_residual-in_err-default.ensures.1)
    (default_refused c.args.names.now c.args.text.now (map placed c.in_ok-read.read.items)
    (map placed c.in_ok-members.members.items) c.in_ok-access.access c.in_err-default.field-0.0
    (held_read (map placed c.in_ok-read.read.items) _ c.in_ok-read.ensures)
    (rw c.deref.ensures.value at c.in_ok-members.ensures) (rw c.deref-2.ensures.value at c.in_ok-access.ensures.acl)
    (rw c.deref-3.ensures.value at c.in_err-default.ensures.fault))

pub returns-clause-found : goal.returns-clause-found
returns-clause-found c =
    file_found c.args.names.now c.args.text.now (map placed c.in_ok-read.read.items)
    (map placed c.in_ok-members.members.items) c.in_ok-access.access c.in_ok-default.default
    (held_read (map placed c.in_ok-read.read.items) _ c.in_ok-read.ensures)
    (rw c.deref.ensures.value at c.in_ok-members.ensures) (rw c.deref-2.ensures.value at c.in_ok-access.ensures.acl)
    (rw c.deref-3.ensures.value at c.in_ok-default.ensures.acl)
