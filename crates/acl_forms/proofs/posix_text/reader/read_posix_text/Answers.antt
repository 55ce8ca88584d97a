use Rattle.acl_forms.proofs.PosixLemmas.{no_fault, one_fault, one_file}
use Rattle.acl_forms.proofs.ReadAnswers.{only_fault, only_value}
use Rattle.acl_forms.specs.PosixRules.{IsPosixTextFault, SpellsPosixText}
use Rattle.acl_forms.proofs.posix_text.reader.read_posix_text.Goals as goal

pub returns-clause-only : goal.returns-clause-only
returns-clause-only c =
    let names = c.args.names.now in
    let text = c.args.text.now in
    only_value (λ v. SpellsPosixText names v text) (IsPosixTextFault names text) c.read_file.result
    (one_file names text) (no_fault names text) c.read_file.ensures.found c.read_file.ensures.fault

pub returns-clause-refused : goal.returns-clause-refused
returns-clause-refused c =
    let names = c.args.names.now in
    let text = c.args.text.now in
    only_fault (λ v. SpellsPosixText names v text) (IsPosixTextFault names text) c.read_file.result
    (one_fault names text) (no_fault names text) c.read_file.ensures.found c.read_file.ensures.fault
