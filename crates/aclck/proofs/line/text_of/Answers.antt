use Rattle.std.proofs.Common.{◌∙◌, ap}
use Rattle.clap.proofs.WalkLemmas.{first_value-rows}
use Rattle.clap.specs.Words.{first_of, found_of}
use Rattle.aclck.specs.Line.{rows_in}
use Rattle.aclck.proofs.line.text_of.Goals as goal

pub returns : goal.returns
returns c = c.get_str.ensures ∙ first_value-rows (found_of c.args.matches.now) c.id.result.now
    ∙ ap (λ name. first_of name (rows_in c.args.matches.now)) c.id.ensures
