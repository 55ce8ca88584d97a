use Rattle.std.proofs.Common.{ap, map, ◌∙◌}
use Rattle.clap.specs.Words.{is_simple_and_free}
use Rattle.aclck.proofs.TableLemmas.{is_free_from}
use Rattle.aclck.specs.internal.Held.{is_sound, term}
use Rattle.aclck.proofs.task.Name.matches.Goals as goal

pub parse-requires : goal.parse-requires
parse-requires c = ap is_simple_and_free c.in_ok-command.ensures
    ∙ is_free_from c.word.result.now (map term c.arguments.result.now)
    (ap is_sound c.arguments.ensures.terms ∙ c.arguments.ensures.sound)
