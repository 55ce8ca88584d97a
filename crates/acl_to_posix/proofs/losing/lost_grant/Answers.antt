use Rattle.std.proofs.Common.{refl}
use Rattle.acl_nfs4.proofs.Exits.{exit_is}
use Rattle.acl_ids.specs.Ids.{with_ids}
use Rattle.acl_to_posix.proofs.ListNames.{loss_fault}
use Rattle.acl_to_posix.proofs.losing.lost_grant.Goals as goal

pub returns-clause-found : goal.returns-clause-found
returns-clause-found c =
    c.in_ok-first_lost.ensures.found (with_ids c.args.names.now c.args.list.now) c.in_ok-columns.ensures.columns

pub returns-clause-none : goal.returns-clause-none
returns-clause-none c =
    c.in_ok-first_lost.ensures.none (with_ids c.args.names.now c.args.list.now) c.in_ok-columns.ensures.columns

pub returns-in_err-check_bound-clause-fault : goal.returns-in_err-check_bound-clause-fault
returns-in_err-check_bound-clause-fault c =
    rw (exit_is c.from_residual.result c.from_residual.ensures.1)
    (loss_fault c.args.names.now c.args.list.now c.args.acl.now c.args.most _ (c.in_default.ensures.known refl)
    c.in_err-check_bound.ensures.fault)
