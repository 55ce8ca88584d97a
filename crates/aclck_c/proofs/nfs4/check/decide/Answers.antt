use Rattle.std.proofs.Common.{◌≡◌, ◌↔◌, ◌∙◌, IsTrue, List, subst}
use Rattle.acl_perm.specs.Situation.{Situation}
use Rattle.acl_nfs4.specs.Ace.{Ace}
use Rattle.acl_eval.specs.Grant.{Grant}
use Rattle.acl_eval.specs.Situation.{situation}
use Rattle.aclck_c.proofs.nfs4.check.decide.Goals as goal

pub returns-clause-ok : goal.returns-clause-ok
returns-clause-ok c =
    let request = c.args.request.now in
    let same : situation request.object c.requester.result ≡ situation request.object request.requester =
    c.requester.ensures.situation request.object ∙ c.with_sorted_groups-sorted.ensures request.object in
    record {
      list = c.in_ok-view.view;
      spelled = c.in_ok-view.ensures.found;
      answer = subst (λ (s : Situation). IsTrue c.grants.result ↔ Grant c.in_ok-view.view s request.mask.bits) same
          (subst (λ (list : List Ace). IsTrue c.grants.result
          ↔ Grant list (situation request.object c.requester.result) request.mask.bits) c.aces.ensures.same
          c.grants.ensures);
    }
