use Rattle.acl_posix.proofs.Common.{sym, tag_of, ◌∙◌}
use Rattle.acl_posix.proofs.sorted.OneEntry.{missing-remove, valid_without}
use Rattle.acl_posix.proofs.acl.PosixAcl.remove.Goals as goal

pub returns-then-needs-clause-fault : goal.returns-then-needs-clause-fault
returns-then-needs-clause-fault c = rw (← c.self.view_is)
    (missing-remove c.self.inside.entries (tag_of c.args.tag) c.self.invariant (sym c.needs.ensures ∙ c.if-needs.true))

pub invariant_of-self : goal.invariant_of-self
invariant_of-self c = rw c.remove.ensures
    (valid_without c.self.inside.entries (tag_of c.args.tag) c.self.invariant (sym c.needs.ensures ∙ c.if-needs.false))

pub returns-clause-valid : goal.returns-clause-valid
returns-clause-valid c = invariant_of-self c
