use Rattle.acl_posix.proofs.raw_list.RawLists.{not_wrong, right_more}
use Rattle.acl_posix.proofs.view.are_entries.Goals as goal

pub returns-in-Err-clause-accepts : goal.returns-in-Err-clause-accepts
returns-in-Err-clause-accepts c = λ are.
    absurd (not_wrong c.args.raws.now c.loop-place.place _ c.in-Err.fault c.loop-place-test.true are
    c.in-Err.ensures.fault)

pub loop-place-preserved : goal.loop-place-preserved
loop-place-preserved c = right_more c.args.raws.now c.loop-place.place _ c.loop-place-test.true c.loop-place.invariant
    c.in_default.ensures.valid
