use Rattle.std.proofs.Common.{subst, sym}
use Rattle.std.specs.Prelude.{IfSome}
use Rattle.acl_posix.specs.Valid.{IsValid}
use Rattle.aclck_c.specs.internal.Deciders.{HasEntry}
use Rattle.aclck_c.proofs.Deciders.{decider_has_entry}
use Rattle.aclck_c.proofs.posix.entries_check.decision_of.Goals as goal

pub placed-entry-requires : goal.placed-entry-requires
placed-entry-requires c =
    let acl = c.in_ok-acl.acl in
    let valid = subst IsValid (sym c.in_ok-acl.ensures.entries) c.in_ok-acl.ensures.valid.complete in
    subst (λ o. IfSome o (HasEntry acl)) (sym c.deciding-found.ensures.entry) (decider_has_entry acl _ _ _ valid)
