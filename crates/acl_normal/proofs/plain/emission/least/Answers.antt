use Rattle.acl_normal.proofs.Common.{ace, aces_in, arith, option_map, refl, subst, sym, take, take_all}
use Rattle.acl_normal.specs.internal.Best.{Best}
use Rattle.acl_normal.proofs.plain.Candidates.{best_first}
use Rattle.acl_normal.proofs.reduce.Passes.{list_of-more}
use Rattle.acl_normal.proofs.plain.emission.least.Goals as goal

pub loop-item-preserved : goal.loop-item-preserved
loop-item-preserved c =
    let left = c.args.left.now in
    let i = c.loop-item.item-index in
    let y = c.item-item.result in
    subst (λ v. Best (aces_in left) v (option_map ace c.better-best.result))
    (sym (list_of-more left y i (omega arith) c.item-item.is))
    (c.better-best.ensures (aces_in left) (ace y) refl c.free_bits.ensures (aces_in (take i left))
    c.loop-item.invariant)

pub returns : goal.returns
returns c =
    best_first (aces_in c.args.left.now) (option_map ace c.loop-item.best)
    (subst (λ v. Best (aces_in c.args.left.now) (aces_in v) (option_map ace c.loop-item.best))
    (take_all c.loop-item.item-index c.args.left.now (omega arith)) c.loop-item.invariant)
