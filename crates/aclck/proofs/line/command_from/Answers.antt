use Rattle.std.proofs.Common.{ap, arith, rules, ◌∙◌, ◌≡◌}
use Rattle.std.proofs.lemmas.Grind.{common_steps}
use Rattle.clap.specs.Words.{app_of, with_rule}
use Rattle.aclck.specs.Line.{plain_app}
use Rattle.aclck.proofs.LineLemmas.{no_terms, one_more_argument}
use Rattle.aclck.proofs.line.command_from.Goals as goal

pub loop-argument-init : goal.loop-argument-init
loop-argument-init c =
    let made : app_of c.disable_help_flag-command.result ≡ plain_app c.args.name.now =
    first_of (search rules, grind (arith, common_steps)) in
    made ∙ no_terms _

pub loop-argument-preserved : goal.loop-argument-preserved
loop-argument-preserved c =
    one_more_argument c.args.name.now c.args.table.now c.loop-argument.argument-index _ c.loop-argument.invariant
    (c.in_ok-command.ensures.shape c.arg_of.ensures.local
    ∙ ap (with_rule (app_of c.loop-argument.command)) c.arg_of.ensures.rule) c.loop-argument-test.true
