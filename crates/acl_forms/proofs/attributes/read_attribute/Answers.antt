use Rattle.acl_forms.proofs.AttributeLemmas.{no_fault, SpellsAttribute-unique, one_fault}
use Rattle.acl_forms.proofs.ReadAnswers.{only_fault, only_value}
use Rattle.acl_forms.specs.Attributes.{IsAttributeFault, SpellsAttribute}
use Rattle.acl_forms.proofs.attributes.read_attribute.Goals as goal

pub returns-clause-only : goal.returns-clause-only
returns-clause-only c =
    let bytes = c.args.bytes.now in
    only_value (λ acl. SpellsAttribute acl bytes) (IsAttributeFault bytes) c.read_acl.result
    (λ one two h k. SpellsAttribute-unique one two bytes h k) (λ acl f h k. no_fault acl bytes f h k)
    c.read_acl.ensures.found
    c.read_acl.ensures.fault

pub returns-clause-refused : goal.returns-clause-refused
returns-clause-refused c =
    let bytes = c.args.bytes.now in
    only_fault (λ acl. SpellsAttribute acl bytes) (IsAttributeFault bytes) c.read_acl.result
    (λ f g h k. one_fault bytes f g h k) (λ acl f h k. no_fault acl bytes f h k) c.read_acl.ensures.found
    c.read_acl.ensures.fault
