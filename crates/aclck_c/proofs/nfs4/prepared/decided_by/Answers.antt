use Rattle.std.proofs.Common.{◌≡◌, ◌∙◌, List, subst, sym, ℕ}
use Rattle.acl_perm.specs.Situation.{Situation}
use Rattle.acl_perm.specs.declared.kind.Kind.{Kind}
use Rattle.acl_perm.specs.declared.kind.Kind.TheVariants.{Allow, Deny}
use Rattle.acl_nfs4.specs.Ace.{Ace}
use Rattle.acl_eval.specs.Deciding.{AreDecidedBy}
use Rattle.acl_eval.specs.Situation.{situation}
use Rattle.aclck_c.proofs.nfs4.prepared.decided_by.Goals as goal

-- the same rights are decided in the same situation
moved : (kind : Kind) (list : List Ace) (s t : Situation) (mask m n : ℕ) → s ≡ t → m ≡ n
    → AreDecidedBy kind list s mask m → AreDecidedBy kind list t mask n
moved kind list s t mask m n situations numbers decided =
    subst (λ (n : ℕ). AreDecidedBy kind list t mask n) numbers
    (subst (λ (t : Situation). AreDecidedBy kind list t mask m) situations decided)

pub returns-clause-rights : goal.returns-clause-rights
returns-clause-rights c = λ list is.
    let object = c.args.call.now.object in
    let mask = c.args.call.now.mask.bits in
    let found = c.in_ok-found.found in
    let s = situation object c.requester.result in
    let t = situation object c.args.requester in
    let same : s ≡ t = c.requester.ensures.situation object ∙ c.with_sorted_groups-sorted.ensures object in
    let from = (c.in_ok-list.ensures list is).1 in
    record {
      allowed = moved Allow list s t mask found.allowed.bits c.bits.result same (sym c.bits.ensures.value)
          (c.in_ok-found.ensures.allowed list from);
      denied = moved Deny list s t mask found.denied.bits c.bits-2.result same (sym c.bits-2.ensures.value)
          (c.in_ok-found.ensures.denied list from);
    }
