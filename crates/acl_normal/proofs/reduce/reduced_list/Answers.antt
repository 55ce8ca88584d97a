use Rattle.acl_normal.proofs.Common.{aces_with, AceRef, aces_in, ap, column, IsReducedOf, IsTidy, List, nothing_left, subst, sym, with_masks, ℕ, ◌∙◌, ◌≡◌}
use Rattle.acl_normal.proofs.reduce.reduced_list.Goals as goal
use Rattle.acl_normal.proofs.rows.RowsAlike.{order_alike, rows_alike}

-- what is left has the outline of the ACEs
outline_kept : {one two aces : List AceRef} (masks : List ℕ) → one ≡ aces → two ≡ aces
    → nothing_left (with_masks two masks) ≡ nothing_left (aces_in two)
    → nothing_left (aces_in one) ≡ nothing_left (with_masks aces masks)
outline_kept {one} {two} {aces} masks e f same =
    ap (λ v. nothing_left (aces_in v)) (e ∙ sym f) ∙ sym same ∙ ap (λ v. nothing_left (with_masks v masks)) f

pub returns-clause-rows : goal.returns-clause-rows
returns-clause-rows c =
    let shown = ap (λ v. aces_with v c.in_ok-masks.masks.items) c.deref-2.ensures.value in
    let kept = c.in_ok-masks.ensures.reduced in
    let outline = outline_kept _ c.deref.ensures.value c.deref-2.ensures.value
    kept.thinned.outline in
    record {
      tidy = subst IsTidy shown kept.thinned.tidy;
      rights = λ b h. ap (λ v. column v b) (sym shown) ∙ kept.rights b h;
      rows = rows_alike (aces_in c.deref.result.now) _ _ outline c.in_ok-numbers.ensures.rows;
      order = order_alike (aces_in c.deref.result.now) _ _ outline c.in_ok-numbers.ensures.order;
    }

pub returns-clause-left : goal.returns-clause-left
returns-clause-left c =
    let same = ap aces_in c.deref-2.ensures.value ∙ c.in_ok-aces.ensures.aces in
    let left = ap (λ v. aces_with v c.in_ok-masks.masks.items) c.deref-2.ensures.value in
    subst (λ v. IsReducedOf v (aces_with c.in_ok-aces.aces.items c.in_ok-masks.masks.items)) same
    (subst (λ v. IsReducedOf (aces_in c.deref-2.result.now) v) left c.in_ok-masks.ensures.reduced)
