use Rattle.std.proofs.Common.{◌∙◌, List, ℕ, subst}
use Rattle.aclck.specs.declared.answer.Outcome.TheVariants as outcome
use Rattle.aclck.specs.internal.Writing.{WritesText}
use Rattle.aclck.proofs.input.posix.write_file.Goals as goal

pub returns : goal.returns
returns g c =
    let writes : List ℕ → Type 0 = λ text. WritesText outcome.Yes text g.K.Sink.contents g.K.Sink.failure_count
    c.args.sink.now c.write_answer.new.sink c.write_answer.result in
    subst writes (c.as_slice.ensures.value ∙ c.in_ok-text.ensures) c.write_answer.ensures
