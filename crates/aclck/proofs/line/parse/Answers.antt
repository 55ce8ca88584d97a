use Rattle.clap.specs.Words.{app_of}
use Rattle.aclck.specs.Line.{texts}
use Rattle.aclck.proofs.LineLemmas.{refused_from, rows_from, taken_from}
use Rattle.aclck.proofs.line.parse.Goals as goal

pub returns-in-Ok-clause-ok : goal.returns-in-Ok-clause-ok
returns-in-Ok-clause-ok c =
    rows_from (app_of c.args.command) (texts c.args.words.now) c.in-Ok.matches c.requires c.in-Ok.ensures.matches

pub returns-in-Ok-clause-taken : goal.returns-in-Ok-clause-taken
returns-in-Ok-clause-taken c = taken_from _ _ c.requires c.in-Ok.ensures.kinds

pub returns-in-Err-clause-usage : goal.returns-in-Err-clause-usage
returns-in-Err-clause-usage c = λ usage.
    refused_from _ _ c.in-Err.error c.requires c.in-Err.ensures.kinds (c.line_fault.ensures.usage usage)
