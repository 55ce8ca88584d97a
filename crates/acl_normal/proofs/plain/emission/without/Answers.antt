use Rattle.acl_normal.proofs.Common.{[], ace, aces_in, ap, arith, map-append, principal_of, sym, take, take_out, without_bits, ◌++◌, ◌∙◌, ◌∷◌}
use Rattle.acl_normal.proofs.reduce.Passes.{list_of-append, list_of-more}
use Rattle.acl_normal.proofs.plain.emission.without.Goals as goal

pub loop-item-preserved : goal.loop-item-preserved
loop-item-preserved c =
    let p = principal_of (ace c.args.first.now) in
    let m = c.args.first.now.mask.bits in
    let left = c.args.left.now in
    let i = c.loop-item.item-index in
    let y = c.item-item.result in
    ap aces_in c.in_ok-push.ensures.items ∙ list_of-append c.loop-item.rest.items (c.remainder.result ∷ [])
    ∙ ap (λ v. v ++ ace c.remainder.result ∷ []) c.loop-item.invariant
    ∙ ap (λ v. take_out p m (aces_in (take i left)) ++ v ∷ []) c.remainder.ensures
    ∙ sym (map-append (without_bits p m) (aces_in (take i left)) (ace y ∷ []))
    ∙ ap (take_out p m) (sym (list_of-more left y i (omega arith) c.item-item.is))
