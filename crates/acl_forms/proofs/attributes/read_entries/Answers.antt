use Rattle.std.proofs.Common.{inr, length, refl, ◌-◌}
use Rattle.acl_forms.proofs.AttributeLemmas.{entry_refused, read_whole, some_bytes}
use Rattle.acl_nfs4.proofs.Exits.{exit_is}
use Rattle.acl_forms.proofs.attributes.read_entries.Goals as goal

pub returns-in_err-next_entry-clause-fault : goal.returns-in_err-next_entry-clause-fault
returns-in_err-next_entry-clause-fault c =
    let rest = c.loop-rest.rest.now in
    rw (exit_is c.from_residual.result c.from_residual.ensures.1)
    (inr (entry_refused c.args.bytes.now c.loop-rest.entries.items rest (length c.args.bytes.now - length rest) _
    c.loop-rest.invariant (some_bytes (length rest) c.loop-rest-test.ensures) refl c.in_err-next_entry.ensures.fault))

pub returns-clause-entries : goal.returns-clause-entries
returns-clause-entries c =
    read_whole c.args.bytes.now c.loop-rest.entries.items c.loop-rest.rest.now c.loop-rest.invariant
    c.loop-rest-test.ensures
