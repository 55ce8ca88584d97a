use Rattle.std.proofs.Common.{ℕ, ◌+◌, ◌<◌, ◌∙◌, subst, sym}
use Rattle.std.proofs.lemmas.Bool.{ltb-true}
use Rattle.acl_nfs4.specs.Limits.{most_weight}
use Rattle.acl_eval.proofs.BridgeWeight.{too_heavy, light_enough}
use Rattle.acl_eval.proofs.bridging.is_within.Goals as goal

pub returns-then-is_too_heavy : goal.returns-then-is_too_heavy
returns-then-is_too_heavy c =
    too_heavy c.args.acl.now c.entries-entries.result.now c.loop-entry.entry-index c.entry-item.result
    c.loop-entry.weight c.entries-entries.ensures.within c.entries-entries.ensures.entries c.loop-entry-test.true
    c.entry-item.is c.loop-entry.invariant.sum
    (subst (λ (n : ℕ). most_weight < c.loop-entry.weight + n) c.cost_of-weight.ensures.cost
    (ltb-true _ _ (sym c.is_too_heavy.ensures ∙ c.if-is_too_heavy.true)))

pub returns : goal.returns
returns c =
    light_enough c.args.acl.now c.entries-entries.result.now c.loop-entry.entry-index c.loop-entry.weight
    c.entries-entries.ensures.within c.entries-entries.ensures.entries c.loop-entry-test.false
    c.loop-entry.invariant.sum c.loop-entry.invariant.small
