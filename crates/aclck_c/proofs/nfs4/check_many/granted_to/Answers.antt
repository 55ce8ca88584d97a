use Rattle.std.proofs.Common.{◌≡◌, ◌∙◌, ap, List, subst, sym, ℕ}
use Rattle.acl_perm.specs.Situation.{Situation}
use Rattle.acl_nfs4.specs.Ace.{Ace}
use Rattle.acl_eval.specs.Situation.{groups_of, named_situation, owner_of, owning_group_of, situation}
use Rattle.aclck_c.specs.Requests.{AreGranted, asked_by}
use Rattle.aclck_c.proofs.nfs4.check_many.granted_to.Goals as goal

pub returns-in-Some : goal.returns-in-Some
returns-in-Some c =
    let view = c.args.view.now in
    let object = c.args.request.now.object in
    let mask = c.args.request.now.mask.bits in
    let owner = owner_of object in
    let group = owning_group_of object in
    let requester = c.in-Some.requester in
    let s = asked_by owner group c.args.who.now in
    let named : situation object requester ≡ s =
    ap (λ (name : List ℕ). named_situation owner group name (groups_of requester)) c.in-Some.ensures.user
    ∙ ap (named_situation owner group c.args.who.now.user.now) c.in-Some.ensures.groups in
    let same : situation object c.requester.result ≡ s =
    c.requester.ensures.situation object ∙ c.with_sorted_groups-sorted.ensures object ∙ named in
    subst (λ (granted : ℕ). AreGranted view s mask granted) (sym c.bits.ensures.value)
    (subst (λ (s : Situation). AreGranted view s mask c.granted.result.bits) same
    (subst (λ (list : List Ace). AreGranted list (situation object c.requester.result) mask c.granted.result.bits)
    c.aces.ensures.same c.granted.ensures.rights))
