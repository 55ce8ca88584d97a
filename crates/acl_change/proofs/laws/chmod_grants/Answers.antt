use Rattle.acl_perm.specs.Situation.{matches}
use Rattle.std.proofs.Common.{refl}
use Rattle.acl_change.proofs.ChmodGrants.{granted_as_before, granted_by_mode, named_within_group}
use Rattle.std.proofs.Common.{sym, ◌∙◌}
use Rattle.acl_change.proofs.laws.chmod_grants.Goals as goal

pub returns-clause-by_mode : goal.returns-clause-by_mode
returns-clause-by_mode c = λ mode list s bit le right. granted_by_mode (matches s) mode list bit refl le right

pub returns-clause-names : goal.returns-clause-names
returns-clause-names c = λ mode list s bit kind le right other first granted.
    named_within_group (matches s) mode list bit kind other first
    (sym (granted_by_mode (matches s) mode list bit refl le right) ∙ granted)

pub returns-clause-as_before : goal.returns-clause-as_before
returns-clause-as_before c = λ mode list s bit le right. granted_as_before (matches s) mode list bit le right
