use Rattle.std.proofs.Common.{◌≡◌, ◌+◌, arith, length}
use Rattle.std.specs.FinMap as set
use Rattle.acl_nfs4.proofs.Exits.{exit_is}
use Rattle.acl_to_posix.specs.internal.ListNamesBody.{named_shape}
use Rattle.acl_to_posix.proofs.ListNames.{count_fault, few_beside}
use Rattle.acl_to_posix.proofs.losses.LossOfLists.{entries_left, more_entries}
use Rattle.acl_to_posix.proofs.losing.check_bound.Goals as goal
use Rattle.acl_to_posix.proofs.losing.check_bound.Goals.{In-Some}

pub returns-in_default-clause-fault : goal.returns-in_default-clause-fault
returns-in_default-clause-fault c =
    more_entries c.args.names.now c.args.list.now c.args.acl.now c.entries.result.now c.args.most
    c.entries.ensures.entries (λ le. c.in_default.ensures (omega (arith, le, c.from.ensures)))

-- what the entries leave of the bound
left_is : (c : In-Some) → c.in-Some.left + length (set.entries c.args.acl.now) ≡ c.args.most
left_is c = entries_left c.args.acl.now c.entries.result.now c.args.most c.in-Some.left c.entries.ensures.entries
    (omega (arith, c.from.ensures, c.in-Some.ensures.0)) (omega (arith, c.from.ensures, c.in-Some.ensures.1))

pub returns-in_err-bounded_names-clause-fault : goal.returns-in_err-bounded_names-clause-fault
returns-in_err-bounded_names-clause-fault c =
    rw (exit_is c.from_residual.result c.from_residual.ensures.1)
    (count_fault c.args.names.now c.args.list.now c.args.acl.now c.args.most c.in-Some.left _
    (left_is (goal.at.returns-in_err-bounded_names-clause-fault c).In-Some)
    c.in_err-bounded_names.ensures.fault)

pub returns-clause-few : goal.returns-clause-few
returns-clause-few c =
    few_beside c.args.names.now c.args.list.now c.args.acl.now c.args.most c.in-Some.left
    (named_shape c.in_ok-bounded_names.field-0) (left_is (goal.at.returns-clause-few c).In-Some)
    c.in_ok-bounded_names.ensures.named c.in_ok-bounded_names.ensures.few
