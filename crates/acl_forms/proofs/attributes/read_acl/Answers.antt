use Rattle.std.proofs.Common.{arith, inr, sym, ◌∙◌}
use Rattle.std.proofs.lemmas.List.{length-map}
use Rattle.acl_posix.specs.Entries.{pair_of}
use Rattle.acl_forms.proofs.AttributeLemmas.{list_fault, room, version_refused}
use Rattle.acl_forms.proofs.attributes.read_acl.Goals as goal

pub returns-in-Some-clause-fault : goal.returns-in-Some-clause-fault
returns-in-Some-clause-fault c =
    inr (version_refused c.args.bytes.now c.in-Some.fault (sym c.in-Some.is ∙ c.version_fault.ensures))

pub acl_of-requires : goal.acl_of-requires
acl_of-requires c =
    let fits = room c.args.bytes.now c.in_ok-entries.entries.items c.in_ok-entries.ensures.entries in
    omega (arith, fits, length-map c.in_ok-entries.entries.items pair_of, c.in_ok-entries.entries.ok.0)

pub returns-clause-fault : goal.returns-clause-fault
returns-clause-fault c =
    list_fault c.args.bytes.now c.in_ok-entries.entries.items c.acl_of.result c.in_ok-entries.ensures.entries
    c.acl_of.ensures.fault
