use Rattle.std.proofs.Common.{sym, ◌∙◌}
use Rattle.acl_nfs4.proofs.names.SetFields.{answers_only, answers_spelled}
use Rattle.acl_nfs4.proofs.names.Tables.{mask_made, named_right}
use Rattle.acl_nfs4.proofs.names.rights.read_mask.Goals as goal

pub returns-in_err-set_in-clause-value : goal.returns-in_err-set_in-clause-value
returns-in_err-set_in-clause-value c = let e = c.in_err-set_in.ensures in cc

pub returns-in_err-set_in-clause-only : goal.returns-in_err-set_in-clause-only
returns-in_err-set_in-clause-only c = λ mask s.
    answers_only c.args.field.now c.from_residual.result mask (returns-in_err-set_in-clause-value c) s

pub returns-clause-value : goal.returns-clause-value
returns-clause-value c = mask_made c.new.result c.in_ok-set_in.field-0 c.new.ensures.within c.new.ensures.value
    (named_right c.args.field.now c.in_ok-set_in.field-0 (sym c.in_ok-set_in.ensures)) ∙ c.in_ok-set_in.ensures

pub returns-clause-named : goal.returns-clause-named
returns-clause-named c = answers_spelled c.args.field.now c.new.result (returns-clause-value c)

pub returns-clause-only : goal.returns-clause-only
returns-clause-only c = λ mask s. answers_only c.args.field.now c.new.result mask (returns-clause-value c) s
