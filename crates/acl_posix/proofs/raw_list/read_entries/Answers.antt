use Rattle.acl_posix.proofs.Common.{arith}
use Rattle.acl_posix.proofs.raw_list.RawLists.{first_wrong, not_wrong, read_more, right_more}
use Rattle.acl_posix.proofs.raw_list.read_entries.Goals as goal

pub returns-in-Err-clause-fault : goal.returns-in-Err-clause-fault
returns-in-Err-clause-fault c = first_wrong c.args.raws.now c.loop-place.place _ c.in-Err.fault c.loop-place-test.true
    c.loop-place.invariant.right c.in-Err.ensures.fault

pub returns-in-Err-clause-numbers : goal.returns-in-Err-clause-numbers
returns-in-Err-clause-numbers c = first_wrong c.args.raws.now c.loop-place.place _ c.in-Err.fault c.loop-place-test.true
    c.loop-place.invariant.right c.in-Err.ensures.fault

pub returns-in-Err-clause-accepts : goal.returns-in-Err-clause-accepts
returns-in-Err-clause-accepts c = λ are.
    absurd (not_wrong c.args.raws.now c.loop-place.place _ c.in-Err.fault c.loop-place-test.true are
    c.in-Err.ensures.fault)

pub loop-place-preserved : goal.loop-place-preserved
loop-place-preserved c = record {
  read = rw c.in_ok-push-in-Ok.ensures.items (read_more c.args.raws.now c.loop-place.entries.items c.loop-place.place
      c.in-Ok.entry _ c.loop-place-test.true c.loop-place.invariant.read c.in-Ok.ensures.entry);
  right = right_more c.args.raws.now c.loop-place.place _ c.loop-place-test.true c.loop-place.invariant.right
      c.in-Ok.ensures.valid;
}

pub returns-clause-valid : goal.returns-clause-valid
returns-clause-valid c = λ place lt. c.loop-place.invariant.right place (omega (arith, lt, c.loop-place-test.false))
