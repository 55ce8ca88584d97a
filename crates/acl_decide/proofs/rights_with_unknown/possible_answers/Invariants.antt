use Rattle.std.proofs.Common.{◌≡◌, ℕ, [], drop, List, Option}
use Rattle.std.specs.Prelude.{◌&&◌, map}
use Rattle.acl_perm.specs.Bits.{has_bit}
use Rattle.acl_perm.specs.declared.kind.Kind.{Kind}
use Rattle.acl_nfs4.specs.Ace.{Ace, ace}
use Rattle.acl_eval.specs.Situation.{situation}
use Rattle.acl_decide.specs.internal.UnknownBody.{HaveNoted, can_answer, may_answer}
use Rattle.acl_decide.proofs.rights_with_unknown.possible_answers.Given as goal

-- what is possible so far, with what the rest of the list may answer, is what the whole list may answer
abbrev pub invariant-loop-item : goal.invariant-loop-item
invariant-loop-item l = (earlier : List Ace) × HaveNoted l.names earlier × ((bit : ℕ) (k : Option Kind)
    → may_answer l.possible earlier (map ace (drop l.item-index l.aces))
    (situation l.matcher.object l.matcher.requester) bit k
    ≡ (has_bit l.fn.mask.bits bit
    && can_answer [] (map ace l.aces) (situation l.matcher.object l.matcher.requester) bit k))
