use Rattle.std.proofs.Common.{◌≡◌}
use Rattle.acl_normal.proofs.Common.{aces_with, all_rights, ap, arith, mask_numbers, SameGrants, subst, sym, waits, with_masks, ◌∙◌}
use Rattle.acl_normal.proofs.merged.MergedRows.new.Goals as goal

pub invariant_of-result : goal.invariant_of-result
invariant_of-result c =
    let aces = c.in_ok-reduced.reduced.aces.items in
    let masks = mask_numbers c.in_ok-reduced.reduced.masks.items in
    let is : c.in_ok-rest.rest ≡ with_masks aces masks = c.in_ok-rest.ensures in
    rw is (record {
      sets = omega (arith, c.in_ok-waiting.ensures.slots, c.in_ok-waiting.waiting.ok);
      once = c.in_ok-reduced.ensures.rows.tidy.once;
      rights = c.in_ok-reduced.ensures.rows.rights;
      waiting = λ k u b i l. c.in_ok-waiting.ensures.waiting k u b i l
          ∙ ap (λ v. waits k u b (aces_with v c.deref-2.result.now) i) c.deref.ensures.value
          ∙ ap (λ v. waits k u b (aces_with aces v) i) c.deref-2.ensures.value;
    })

pub returns-clause-grants : goal.returns-clause-grants
returns-clause-grants c =
    subst (λ l. SameGrants all_rights l c.in_ok-rest.rest) c.view.ensures
    (subst (λ v. SameGrants all_rights c.view.result v) (sym c.in_ok-rest.ensures) c.in_ok-reduced.ensures.left.grants)
