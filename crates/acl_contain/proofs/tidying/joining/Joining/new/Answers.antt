use Rattle.acl_contain.proofs.joins.Starting.{ends_before, joined_before}
use Rattle.acl_normal.proofs.Common.{[], aces_in, ap, length, length-replicate, replicate, subst, sym, ℕ, ◌*◌, ◌∙◌, ◌≡◌}
use Rattle.acl_contain.proofs.tidying.joining.Joining.new.Goals as goal
use Rattle.acl_contain.specs.internal.Joining.{AreEnds, AreJoined}

pub returns : goal.returns
returns c =
    let list = aces_in c.args.aces.now in
    let kept : c.in_ok-kept.kept.items ≡ [] = c.in_ok-kept.ensures.items in
    let keys : c.in_ok-keys.keys.items ≡ replicate (2 * c.args.numbered.now.count) 0 =
    c.in_ok-keys.ensures.items_if_clones_equal (λ y h. h) in
    let rights : c.in_ok-rights.rights.items ≡ replicate 84 0 = c.in_ok-rights.ensures.items_if_clones_equal (λ y h.
    h) in
    record {
      joined = subst (λ v. AreJoined list 0 (aces_in v)) (sym kept) (joined_before list);
      ends = subst (λ v. AreEnds list c.args.numbered.now.numbers.items (aces_in v) c.in_ok-keys.keys.items
          c.in_ok-rights.rights.items) (sym kept)
          (subst (λ v. AreEnds list c.args.numbered.now.numbers.items [] v c.in_ok-rights.rights.items) (sym keys)
          (subst (λ v. AreEnds list c.args.numbered.now.numbers.items [] (replicate (2 * c.args.numbered.now.count) 0)
          v)
          (sym rights) (ends_before list c.args.numbered.now.numbers.items (2 * c.args.numbered.now.count) 84)));
      keys = ap length keys ∙ length-replicate {A = ℕ} (2 * c.args.numbered.now.count) 0;
      rights = ap length rights ∙ length-replicate {A = ℕ} 84 0;
    }
