use Rattle.std.proofs.Common.{◌≡◌, ◌∙◌, List, subst, sym, ℕ}
use Rattle.acl_perm.specs.Situation.{Situation}
use Rattle.acl_nfs4.specs.Ace.{Ace}
use Rattle.acl_eval.specs.Situation.{situation}
use Rattle.aclck_c.specs.Requests.{AreGranted}
use Rattle.aclck_c.proofs.nfs4.granted.granted_in.Goals as goal

pub returns-clause-ok : goal.returns-clause-ok
returns-clause-ok c =
    let request = c.args.request.now in
    let s = situation request.object request.requester in
    let same : situation request.object c.requester.result ≡ s =
    c.requester.ensures.situation request.object ∙ c.with_sorted_groups-sorted.ensures request.object in
    record {
      list = c.in_ok-view.view;
      spelled = c.in_ok-view.ensures.found;
      rights = subst (λ (granted : ℕ). AreGranted c.in_ok-view.view s request.mask.bits granted)
          (sym c.bits.ensures.value)
          (subst (λ (s : Situation). AreGranted c.in_ok-view.view s request.mask.bits c.granted.result.bits) same
          (subst (λ (list : List Ace). AreGranted list (situation request.object c.requester.result)
          request.mask.bits c.granted.result.bits) c.aces.ensures.same c.granted.ensures.rights));
    }
