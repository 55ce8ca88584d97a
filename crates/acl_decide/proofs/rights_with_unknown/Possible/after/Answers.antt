use Rattle.std.proofs.Common.{ap, sym, ◌∙◌}
use Rattle.std.specs.Prelude.{◌&&◌, not}
use Rattle.std.proofs.lemmas.Bool.{and_from}
use Rattle.acl_perm.specs.Bits.{has_bit}
use Rattle.acl_nfs4.specs.Ace.{ace}
use Rattle.acl_eval.specs.Situation.{situation}
use Rattle.acl_decide.proofs.UnknownMasks.{after_inherited, after_lacking, after_match, after_other, after_unknown}
use Rattle.acl_decide.proofs.rights_with_unknown.Possible.after.Goals.{then-bits-eq0-via-then-bits-eq0, then-bits-eq0-via-else-bits-eq0+then-not-takes_part}
use Rattle.acl_decide.proofs.rights_with_unknown.Possible.after.Goals as goal

pub returns-then-bits-eq0 : goal.returns-then-bits-eq0
returns-then-bits-eq0 c = λ earlier list bit answer had. elim c.then-bits-eq0.branch [
  | then-bits-eq0-via-then-bits-eq0 w ↦ after_lacking c.args.self c.intersection-common.result.bits
      earlier (ace c.args.item.now) list
      (situation c.args.matcher.now.object c.args.matcher.now.requester) bit answer
      c.intersection-common.ensures.meaning (sym c.bits.ensures.value ∙ w.if-bits-eq0.true)
  | then-bits-eq0-via-else-bits-eq0+then-not-takes_part w ↦ after_inherited c.args.self earlier
      (ace c.args.item.now) list (situation c.args.matcher.now.object c.args.matcher.now.requester) bit answer
      (sym w.takes_part.ensures ∙ w.if-not-takes_part.true)
]

pub returns-then-is_unknown : goal.returns-then-is_unknown
returns-then-is_unknown c = λ earlier list bit answer had.
    after_unknown c.args.self c.with.result c.intersection-common.result.bits
    c.difference.result.bits earlier (ace c.args.item.now) list
    (situation c.args.matcher.now.object c.args.matcher.now.requester) bit answer
    (sym c.takes_part.ensures ∙ c.if-not-takes_part.false) (sym c.is_unknown.ensures ∙ c.if-is_unknown.true)
    c.intersection-common.ensures.meaning (c.difference.ensures.meaning bit
    ∙ ap (λ t. has_bit c.intersection-common.result.bits bit && not t)
    (had (and_from _ _ (sym c.is_unknown.ensures ∙ c.if-is_unknown.true)
    (sym c.takes_part.ensures ∙ c.if-not-takes_part.false)) bit))
    (c.with.ensures.possible bit answer) (ap (λ m. has_bit m.bits bit) c.with.ensures.left)

pub returns-then-applies : goal.returns-then-applies
returns-then-applies c = λ earlier list bit answer had.
    after_match c.args.self c.without.result c.intersection-common.result.bits
    earlier (ace c.args.item.now) list
    (situation c.args.matcher.now.object c.args.matcher.now.requester) bit answer
    (sym c.is_unknown.ensures ∙ c.if-is_unknown.false) (sym c.applies.ensures ∙ c.if-applies.true)
    c.intersection-common.ensures.meaning
    (c.without.ensures.possible bit answer ∙ c.with-then-applies.ensures.possible bit answer)
    (λ k. c.without.ensures.left k ∙ ap (λ m. has_bit m.bits k && not (has_bit c.intersection-common.result.bits k))
    c.with-then-applies.ensures.left)

pub returns : goal.returns
returns c = λ earlier list bit answer had. after_other c.args.self earlier (ace c.args.item.now) list
    (situation c.args.matcher.now.object c.args.matcher.now.requester) bit answer
    (sym c.is_unknown.ensures ∙ c.if-is_unknown.false) (sym c.takes_part.ensures ∙ c.if-not-takes_part.false)
    (sym c.applies.ensures ∙ c.if-applies.false)
