use Rattle.std.proofs.Common.{◌↔◌, ◌∙◌, IsTrue, subst, List}
use Rattle.acl_perm.specs.Situation.{Situation}
use Rattle.acl_nfs4.specs.Ace.{Ace}
use Rattle.acl_eval.specs.Grant.{Grant}
use Rattle.acl_eval.specs.Situation.{situation}
use Rattle.acl_eval.proofs.whole_request.grants_for_many_groups.Goals as goal

pub returns : goal.returns
returns c =
    subst (λ (s : Situation). IsTrue c.grants.result ↔ Grant c.args.list.now s c.args.mask.bits)
    (c.requester.ensures.situation c.args.object.now ∙ c.in_ok-sorted.ensures.situation c.args.object.now)
    (subst (λ (list : List Ace). IsTrue c.grants.result
    ↔ Grant list (situation c.args.object.now c.requester.result) c.args.mask.bits)
    c.aces.ensures.same c.grants.ensures)
