use Rattle.acl_forms.proofs.PosixLemmas.{no_default_fault, one_default, one_default_fault}
use Rattle.acl_forms.proofs.ReadAnswers.{only_fault, only_value}
use Rattle.acl_forms.specs.PosixRules.{IsDefaultTextFault, SpellsDefaultText}
use Rattle.acl_forms.proofs.posix_text.reader.read_default_text.Goals as goal

pub returns-clause-only : goal.returns-clause-only
returns-clause-only c =
    let names = c.args.names.now in
    let text = c.args.text.now in
    only_value (λ v. SpellsDefaultText names v text) (IsDefaultTextFault names text) c.read_default.result
    (one_default names text) (no_default_fault names text) c.read_default.ensures.found c.read_default.ensures.fault

pub returns-clause-refused : goal.returns-clause-refused
returns-clause-refused c =
    let names = c.args.names.now in
    let text = c.args.text.now in
    only_fault (λ v. SpellsDefaultText names v text) (IsDefaultTextFault names text) c.read_default.result
    (one_default_fault names text)
    (no_default_fault names text) c.read_default.ensures.found c.read_default.ensures.fault
