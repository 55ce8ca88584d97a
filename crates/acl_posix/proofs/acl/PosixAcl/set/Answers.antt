use Rattle.acl_posix.proofs.Common.{sym, tag_of, ◌∙◌}
use Rattle.acl_posix.proofs.sorted.OneEntry.{mask_absent, memory_refused, no_named, valid_with}
use Rattle.acl_posix.proofs.acl.PosixAcl.set.Goals as goal

pub returns-then-lacks_mask_for-clause-fault : goal.returns-then-lacks_mask_for-clause-fault
returns-then-lacks_mask_for-clause-fault c = rw (← c.self.view_is)
    (mask_absent c.self.inside.entries (tag_of c.args.tag) c.args.perm.bits c.self.invariant
    (sym c.lacks_mask_for.ensures ∙ c.if-lacks_mask_for.true))

pub returns-then-lacks_mask_for-clause-no_memory : goal.returns-then-lacks_mask_for-clause-no_memory
returns-then-lacks_mask_for-clause-no_memory c = rw (← c.self.view_is)
    (λ some. absurd (no_named c.self.inside.entries (tag_of c.args.tag) c.self.invariant
    (sym c.lacks_mask_for.ensures ∙ c.if-lacks_mask_for.true) some))

pub returns-in_err-insert-clause-fault : goal.returns-in_err-insert-clause-fault
returns-in_err-insert-clause-fault c = rw (← c.self.view_is)
    (memory_refused _ c.from_residual.result c.from_residual.ensures
    (valid_with c.self.inside.entries (tag_of c.args.tag) c.args.perm.bits c.self.invariant
    (sym c.lacks_mask_for.ensures ∙ c.if-lacks_mask_for.false)))

pub invariant_of-self-2 : goal.invariant_of-self-2
invariant_of-self-2 c = rw c.in_ok-insert.ensures.ok
    (valid_with c.self.inside.entries (tag_of c.args.tag) c.args.perm.bits c.self.invariant
    (sym c.lacks_mask_for.ensures ∙ c.if-lacks_mask_for.false))

pub returns-clause-valid : goal.returns-clause-valid
returns-clause-valid c = invariant_of-self-2 c
