use Rattle.acl_nfs4.proofs.Common.{Ace, ace, map, ap, count_ones, most_aces, most_weight, subst, sym, weight, ◌+◌, ◌<◌, ◌≤◌, length, ℕ}
use Rattle.acl_nfs4.specs.AccessPart.{IsAnyWho, Part}
use Rattle.acl_nfs4.specs.internal.PartReading.{CanBePart}
use Rattle.acl_nfs4.proofs.xdr.StandIns.{part_push}
use Rattle.acl_nfs4.proofs.xdr.access_part.AccessPart.add.Goals as goal

pub invariant_of-self-2 : goal.invariant_of-self-2
invariant_of-self-2 c =
    subst CanBePart (sym c.in_ok-push.ensures.items)
    (part_push c.self.inside.aces.items c.kept.result c.self.inside.left_out c.self.invariant
    (subst (λ (p : Part). length p.kept + p.left_out < most_aces) (sym c.self.view_is) c.requires.few)
    (subst (λ (n : ℕ). weight (map ace c.self.inside.aces.items) + count_ones n ≤ most_weight)
    (sym (ap (λ (a : Ace). a.mask) c.kept.ensures))
    (subst (λ (p : Part). weight p.kept + count_ones c.args.item.mask.bits ≤ most_weight) (sym c.self.view_is)
    c.requires.light))
    (subst IsAnyWho (sym (ap (λ (a : Ace). a.who) c.kept.ensures)) c.requires.named))
