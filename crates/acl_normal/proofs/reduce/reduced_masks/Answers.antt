use Rattle.acl_normal.proofs.Common.{aces_with, aces_in, drop, length, sym, take, ◌++◌, ◌∙◌, ◌≡◌}
use Rattle.std.proofs.lemmas.List.{take_at}
use Rattle.acl_normal.proofs.reduce.Reducing.{reduced_in_two}
use Rattle.acl_normal.proofs.reduce.reduced_masks.Goals as goal

pub returns : goal.returns
returns c =
    let items : take c.in_ok-masks.masks.len (c.drop_needless.new.masks
    ++ drop (length c.drop_needless.new.masks) c.in_ok-masks.masks.items) ≡ c.drop_needless.new.masks =
    take_at c.drop_needless.new.masks _ _ (c.drop_needless.ensures.places ∙ sym c.in_ok-masks.ensures.places) in
    let last = rw c.deref_mut.ensures.value at c.drop_needless.ensures in
    rw items (record {
      places = c.in_ok-masks.ensures.places;
      reduced = reduced_in_two (aces_in c.args.aces.now)
          (aces_with c.args.aces.now c.in_ok-masks.masks.items) _ c.requires.accepted
          c.in_ok-masks.ensures.thinned c.in_ok-masks.ensures.columns last.thinned last.columns;
    })
