use Rattle.acl_posix.specs.RawEntries.{raw_pairs}
use Rattle.acl_posix.proofs.view.Views.{RisesUpTo}
use Rattle.acl_posix.proofs.view.first_stop.Given as goal

-- each tag before the place is after the one before it
abbrev pub invariant-loop-place : goal.invariant-loop-place
invariant-loop-place l = RisesUpTo (raw_pairs l.raws) l.place
