use Rattle.std.proofs.Common.{◌≡◌, ◌∙◌, ap, List}
use Rattle.acl_perm.specs.Situation.{Situation}
use Rattle.acl_nfs4.specs.Ace.{Ace}
use Rattle.acl_eval.specs.Deciding.{deciding_kind, deciding_place}
use Rattle.acl_eval.specs.Situation.{situation}
use Rattle.aclck_c.proofs.nfs4.deciding.decide.Goals as goal

pub returns-clause-ok : goal.returns-clause-ok
returns-clause-ok c =
    let request = c.args.request.now in
    let view = c.in_ok-view.view in
    let bit = c.args.right.bit in
    let s = situation request.object c.requester.result in
    let same : s ≡ situation request.object request.requester =
    c.requester.ensures.situation request.object ∙ c.with_sorted_groups-sorted.ensures request.object in
    record {
      list = view;
      spelled = c.in_ok-view.ensures.found;
      is_place = c.deciding_ace.ensures.place ∙ ap (λ (list : List Ace). deciding_place list s bit) c.aces.ensures.same
          ∙ ap (λ (s : Situation). deciding_place view s bit) same;
      is_kind = c.deciding_ace.ensures.kind ∙ ap (λ (list : List Ace). deciding_kind list s bit) c.aces.ensures.same
          ∙ ap (λ (s : Situation). deciding_kind view s bit) same;
    }
