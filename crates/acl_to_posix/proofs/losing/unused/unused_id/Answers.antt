use Rattle.std.proofs.Common.{◌+◌, ◌∙◌, arith, sym}
use Rattle.acl_posix.specs.Check.{ids}
use Rattle.acl_to_posix.proofs.losses.UnusedIds.{below_ids, one_more}
use Rattle.acl_to_posix.proofs.losing.unused.unused_id.Goals as goal

pub loop-value-init : goal.loop-value-init
loop-value-init c = (λ n below. absurd (omega (arith, below)), omega arith)

pub loop-value-preserved : goal.loop-value-preserved
loop-value-preserved c =
    let more = one_more (ids c.args.used.now) c.loop-value.value c.loop-value.invariant.0
    (sym c.is_used.ensures ∙ c.loop-value-test.true) in
    (more, below_ids c.args.used.now (c.loop-value.value + 1) more)
