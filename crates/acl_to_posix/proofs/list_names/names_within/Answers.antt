use Rattle.std.proofs.Common.{◌-◌, arith}
use Rattle.std.proofs.lemmas.List.{length-map}
use Rattle.acl_nfs4.proofs.Exits.{exit_is}
use Rattle.acl_posix.specs.Check.{ids}
use Rattle.acl_posix.specs.declared.id.Id.{Id}
use Rattle.acl_to_posix.proofs.ListNames.{groups_above, names_are, users_above}
use Rattle.acl_to_posix.proofs.list_names.names_within.Goals as goal

pub returns-in_err-users-clause-fault : goal.returns-in_err-users-clause-fault
returns-in_err-users-clause-fault c =
    rw (exit_is c.from_residual.result c.from_residual.ensures.1)
    (users_above c.args.names.now c.args.list.now c.args.most _ c.in_err-users.ensures.fault)

pub returns-in_err-groups-clause-fault : goal.returns-in_err-groups-clause-fault
returns-in_err-groups-clause-fault c =
    rw (exit_is c.from_residual-in_err-groups.result c.from_residual-in_err-groups.ensures.1)
    (groups_above c.args.names.now c.args.list.now c.args.most (c.args.most - c.len.result) c.in_ok-users.users.items _
    c.in_ok-users.ensures.named c.in_ok-users.ensures.few (omega (arith, c.len.ensures)) c.in_err-groups.ensures.fault)

pub returns-clause-named : goal.returns-clause-named
returns-clause-named c = names_are c.args.names.now c.args.list.now (ids c.in_ok-users.users.items)
    (ids c.in_ok-groups.groups.items) c.in_ok-users.ensures.named c.in_ok-groups.ensures.named

pub returns-clause-few : goal.returns-clause-few
returns-clause-few c =
    let users = length-map c.in_ok-users.users.items (λ (id : Id). id.value) in
    let groups = length-map c.in_ok-groups.groups.items (λ (id : Id). id.value) in
    omega (arith, users, groups, c.len.ensures, c.in_ok-users.ensures.few, c.in_ok-groups.ensures.few)
