use Rattle.std.proofs.Common.{◌≡◌, false}
use Rattle.acl_normal.proofs.Common.{is_principal_of, principal, subst, sym}
use Rattle.acl_normal.proofs.rows.Rows.{unnamed_taken}
use Rattle.acl_normal.proofs.merged.MergedRows.emit.Goals as goal

pub returns-in_default : goal.returns-in_default
returns-in_default c =
    sym (unnamed_taken (principal c.args.p) c.args.bits.bits c.args.self.now
    (subst (λ v. is_principal_of (principal c.args.p) v ≡ false) c.self.view_is c.in_default.ensures.missing))
