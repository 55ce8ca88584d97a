use Rattle.std.proofs.Common.{sym, ◌∙◌}
use Rattle.acl_perm.proofs.Cuts.{trim_start, trim_step, trim_stop}
use Rattle.acl_perm.proofs.lines.trimmed.Goals as goal

pub loop-rest-init : goal.loop-rest-init
loop-rest-init c = trim_start c.args.bytes.now _ c.blanks_before.ensures.value

pub loop-rest-preserved : goal.loop-rest-preserved
loop-rest-preserved c = trim_step _ c.in-len1-up.len_at_least (sym c.is_blank.ensures ∙ c.if-not-is_blank.false)
    ∙ c.loop-rest.invariant

pub returns-then-not-is_blank : goal.returns-then-not-is_blank
returns-then-not-is_blank c =
    sym (trim_stop _ c.in-len1-up.len_at_least (sym c.is_blank.ensures ∙ c.if-not-is_blank.true))
    ∙ c.loop-rest.invariant
