use Rattle.std.specs.Prelude.{not}
use Rattle.acl_perm.specs.Lines.{is_blank}
use Rattle.acl_perm.proofs.Cuts.{blanks_none, says_value}
use Rattle.acl_perm.proofs.lines.blanks_before.Goals as goal

pub returns-in-None-clause-value : goal.returns-in-None-clause-value
returns-in-None-clause-value c =
    blanks_none _
    (says_value (λ b. not (is_blank b)) c.args.bytes.now _ _ c.first_other.ensures c.in-None.is)
