use Rattle.std.proofs.Common.{ap, refl, ◌∙◌}
use Rattle.acl_forms.specs.internal.FaultSearch.{tools_fault_from}
use Rattle.acl_forms.proofs.FormLemmas.{empty_fault, some_fault}
use Rattle.acl_forms.proofs.tools.writer.tools_fault.Goals as goal

pub returns-then-is_empty : goal.returns-then-is_empty
returns-then-is_empty c = empty_fault c.args.object c.args.list.now (c.if-is_empty.ensures.0 refl)

pub returns : goal.returns
returns c =
    c.first_fault.ensures ∙ ap (tools_fault_from c.args.object 0 0) c.aces.ensures.same
    ∙ some_fault c.args.object c.args.list.now (λ e. let wrong = c.if-is_empty.ensures.1 e in absurd cc)
