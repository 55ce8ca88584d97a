use Rattle.acl_normal.proofs.Common.{ace, ace_key, aces_in, ap, arith, column, is_free, length, option_map, slice_index_or, subst, sym, take, take_all, take_more, ◌<◌, ◌∙◌, ◌≡◌}
use Rattle.acl_normal.specs.internal.Best.{Best}
use Rattle.acl_normal.proofs.plain.Candidates.{best_first}
use Rattle.acl_normal.proofs.plain.FreeInRows.{key_there}
use Rattle.acl_normal.proofs.rows.ByPlace.{length_of}
use Rattle.acl_normal.proofs.unique.Outline.{length_alike}
use Rattle.acl_normal.proofs.plain.by_rows.least.Goals as goal

pub loop-item-preserved : goal.loop-item-preserved
loop-item-preserved c =
    let xs = c.args.rows.now in
    let aces = c.args.aces.now in
    let i = c.loop-item.item-index in
    let y = c.item-item.result in
    let here = slice_index_or xs i (ace y) in
    let key : ace_key here ≡ ace_key (ace y) =
    key_there xs aces i y c.requires.outline (omega arith) c.item-item.is in
    let within : i < length xs =
    omega (arith, length_alike xs (aces_in aces) c.requires.outline, length_of aces) in
    subst (λ v. Best xs v (option_map ace c.better-best.result)) (sym (take_more xs i (ace y) within))
    (c.better-best.ensures xs here key
    (λ bit. c.free_bits.ensures bit ∙ ap (is_free (column xs bit)) (sym key)) (take i xs) c.loop-item.invariant)

pub returns : goal.returns
returns c =
    let xs = c.args.rows.now in
    best_first xs (option_map ace c.loop-item.best)
    (subst (λ v. Best xs v (option_map ace c.loop-item.best))
    (take_all c.loop-item.item-index xs
    (omega (arith, length_alike xs (aces_in c.args.aces.now) c.requires.outline, length_of c.args.aces.now)))
    c.loop-item.invariant)
