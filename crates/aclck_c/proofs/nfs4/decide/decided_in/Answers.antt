use Rattle.std.proofs.Common.{◌≡◌, ◌∙◌, List, subst, sym, ℕ}
use Rattle.acl_perm.specs.Situation.{Situation}
use Rattle.acl_perm.specs.declared.kind.Kind.{Kind}
use Rattle.acl_perm.specs.declared.kind.Kind.TheVariants.{Allow, Deny}
use Rattle.acl_nfs4.specs.Ace.{Ace}
use Rattle.acl_eval.specs.Deciding.{AreDecidedBy}
use Rattle.acl_eval.specs.Situation.{situation}
use Rattle.aclck_c.proofs.nfs4.decide.decided_in.Goals as goal

-- the same rights are decided of the same list, in the same situation
moved : (kind : Kind) (one other : List Ace) (s t : Situation) (mask m n : ℕ) → one ≡ other → s ≡ t → m ≡ n
    → AreDecidedBy kind one s mask m → AreDecidedBy kind other t mask n
moved kind one other s t mask m n lists situations numbers decided =
    subst (λ (n : ℕ). AreDecidedBy kind other t mask n) numbers
    (subst (λ (t : Situation). AreDecidedBy kind other t mask m) situations
    (subst (λ (list : List Ace). AreDecidedBy kind list s mask m) lists decided))

pub returns-clause-ok : goal.returns-clause-ok
returns-clause-ok c =
    let request = c.args.request.now in
    let view = c.in_ok-view.view in
    let found = c.decided-found.result in
    let s = situation request.object c.requester.result in
    let t = situation request.object request.requester in
    let same : s ≡ t =
    c.requester.ensures.situation request.object ∙ c.with_sorted_groups-sorted.ensures request.object in
    record {
      list = view;
      spelled = c.in_ok-view.ensures.found;
      allowed = moved Allow c.aces.result view s t request.mask.bits found.allowed.bits c.bits.result
          c.aces.ensures.same same (sym c.bits.ensures.value) c.decided-found.ensures.allowed;
      denied = moved Deny c.aces.result view s t request.mask.bits found.denied.bits c.bits-2.result
          c.aces.ensures.same same (sym c.bits-2.ensures.value) c.decided-found.ensures.denied;
    }
