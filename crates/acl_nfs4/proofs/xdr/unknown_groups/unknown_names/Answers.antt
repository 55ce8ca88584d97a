use Rattle.acl_nfs4.proofs.Common.{Bor, List, subst, sym, take, ℕ, ◌+◌, ◌∙◌}
use Rattle.std.specs.BTreeSet.{BTreeSet}
use Rattle.acl_nfs4.specs.internal.PartReading.{HasUnknownNames}
use Rattle.acl_nfs4.proofs.xdr.UnknownNames.{names_more, names_stay}
use Rattle.acl_nfs4.proofs.xdr.unknown_groups.unknown_names.Goals as goal
use Rattle.acl_nfs4.proofs.xdr.unknown_groups.unknown_names.Goals.{else-is_unknown, then-is_unknown+in_ok-insert}

pub loop-item-preserved : goal.loop-item-preserved
loop-item-preserved c = elim c.if-is_unknown.branch [
  | then-is_unknown+in_ok-insert w ↦
      subst (λ (n : BTreeSet (Bor (List ℕ))). HasUnknownNames n (take (c.loop-item.item-index + 1) c.args.aces.now))
      (sym w.names-is)
      (names_more c.loop-item.names w.insert.new.self c.args.aces.now c.loop-item.item-index c.item-item.result
      c.loop-item-test.true c.item-item.is (sym c.is_unknown.ensures ∙ w.if-is_unknown.true) c.loop-item.invariant
      w.in_ok-insert.ensures.keys)
  | else-is_unknown w ↦
      subst (λ (n : BTreeSet (Bor (List ℕ))). HasUnknownNames n (take (c.loop-item.item-index + 1) c.args.aces.now))
      (sym w.names-is)
      (names_stay c.loop-item.names c.args.aces.now c.loop-item.item-index c.item-item.result
      c.loop-item-test.true c.item-item.is (sym c.is_unknown.ensures ∙ w.if-is_unknown.false) c.loop-item.invariant)
]
