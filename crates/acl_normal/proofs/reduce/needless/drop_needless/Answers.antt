use Rattle.std.proofs.Common.{length, suc, ◌-◌, ◌≡◌}
use Rattle.acl_normal.proofs.Common.{ace, ace_key, ap, arith, mask_numbers, plain_key, principal_of, subst, sym, ◌∙◌}
use Rattle.acl_normal.proofs.reduce.Unneeded.{Dropping, dropping_end, dropping_turn}
use Rattle.acl_normal.proofs.unique.Outline.{outline_shown}
use Rattle.acl_normal.proofs.reduce.needless.drop_needless.Goals as goal
use Rattle.acl_normal.proofs.rows.MaskNumbers.{bits_length}

pub loop-place-preserved : goal.loop-place-preserved
loop-place-preserved c =
    let aces = c.args.aces.now in
    let given = mask_numbers c.args.masks.now in
    let x = c.index-aces-place.result in
    let place = c.loop-place.place - 1 in
    let next : c.loop-place.place ≡ suc place = omega (arith, c.loop-place-test.true) in
    let count : length c.loop-place.masks ≡ length aces = c.loop-place.auto.masks ∙ c.requires.places in
    let own : plain_key c.key-at.result ≡ ace_key (ace x) =
    ap (λ p. (p, c.key-at.result.kind)) c.key-at.ensures.principal
    ∙ ap (λ k. (principal_of (ace x), k)) c.key-at.ensures.kind in
    dropping_turn aces given c.loop-place.masks place c.allowed_to_everyone-allowed.result.bits x
    c.index-masks-place.result c.needless-dropped.result c.difference.result c.loop-place.later c.noted-later.result
    c.requires.tidy (omega (arith, next)) (bits_length c.args.masks.now ∙ c.requires.places) count
    c.index-aces-place.is c.index-masks-place.is c.allowed_to_everyone-allowed.ensures
    (λ b. cc (c.needless-dropped.ensures b, c.opposite.ensures b)) (λ k users b. cc (c.noted-later.ensures k users b))
    c.difference.ensures.meaning
    (subst (λ n. Dropping aces given (mask_numbers c.loop-place.masks) n c.loop-place.later) next
    c.loop-place.invariant)

pub returns : goal.returns
returns c =
    let aces = c.args.aces.now in
    let given = mask_numbers c.args.masks.now in
    let masks = mask_numbers c.loop-place.masks in
    let count : length c.loop-place.masks ≡ length aces = c.loop-place.auto.masks ∙ c.requires.places in
    let none : c.loop-place.place ≡ 0 = omega (arith, c.loop-place-test.false) in record {
      places = count;
      thinned = record {
        outline = outline_shown aces masks (bits_length c.loop-place.masks ∙ count)
            ∙ sym (outline_shown aces given (bits_length c.args.masks.now ∙ c.requires.places));
        tidy = c.loop-place.invariant.tidy;
        firsts = c.loop-place.invariant.firsts;
      };
      columns = λ b low. dropping_end aces given masks c.loop-place.later
          (subst (λ n. Dropping aces given masks n c.loop-place.later) none c.loop-place.invariant) b;
    }
