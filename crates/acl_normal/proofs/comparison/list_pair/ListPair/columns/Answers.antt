use Rattle.acl_normal.proofs.Common.{aces_in, all_mentioned, ap, AreWhoms, length, map, principals, subst, sym, ◌∙◌, ◌≡◌}
use Rattle.acl_normal.proofs.comparison.RightsByNumber.{whoms_within}
use Rattle.acl_normal.proofs.comparison.NumbersWithRight.{numbers_below}
use Rattle.acl_normal.proofs.comparison.ColumnLemmas.{columns_made}
use Rattle.acl_normal.proofs.comparison.FirstPlaceLemmas.{whoms_length}
use Rattle.acl_normal.proofs.comparison.list_pair.ListPair.columns.Goals as goal
use Rattle.acl_normal.specs.internal.comparison.Columns.{AreColumnsOf, AreRightsByNumber, all_renumbered}
use Rattle.acl_normal.specs.internal.comparison.ListPair.{lists_in}
use Rattle.acl_normal.specs.internal.comparison.TwoLists.{principal_at}
use Rattle.acl_normal.specs.declared.comparison.columns.Columns.{Columns}

pub column_of-requires-clause-whoms : goal.column_of-requires-clause-whoms
column_of-requires-clause-whoms c =
    whoms_length (principals c.self.inside.mentioned.now) _ _ c.self.invariant.first_whoms

pub column_of-requires-2-clause-whoms : goal.column_of-requires-2-clause-whoms
column_of-requires-2-clause-whoms c =
    whoms_length (principals c.self.inside.mentioned.now) _ _ c.self.invariant.second_whoms

pub column_of-requires-clause-within : goal.column_of-requires-clause-within
column_of-requires-clause-within c = whoms_within (principals c.self.inside.mentioned.now)
    (aces_in c.self.inside.first.now) c.self.inside.first_whoms.now
    (ap length c.deref.ensures.value ∙ c.in_ok-numbers.ensures.count ∙ c.requires.count
    ∙ sym (ap (λ both. length (all_mentioned both)) c.self.view_is) ∙ sym (ap length c.self.invariant.mentioned))
    c.self.invariant.first_whoms

pub column_of-requires-2-clause-within : goal.column_of-requires-2-clause-within
column_of-requires-2-clause-within c = whoms_within (principals c.self.inside.mentioned.now)
    (aces_in c.self.inside.second.now) c.self.inside.second_whoms.now
    (ap length c.deref-2.ensures.value ∙ c.in_ok-numbers.ensures.count ∙ c.requires.count
    ∙ sym (ap (λ both. length (all_mentioned both)) c.self.view_is) ∙ sym (ap length c.self.invariant.mentioned))
    c.self.invariant.second_whoms

pub principals_at-requires : goal.principals_at-requires
principals_at-requires c = numbers_below c.deref-3.ensures.value c.requires.count c.in_ok-numbers.ensures

pub returns : goal.returns
returns c =
    let found : Columns = record {
      numbers = c.in_ok-numbers.field-0.numbers;
      principals = c.in_ok-principals.principals;
      first = c.in_ok-first.first;
      second = c.in_ok-second.second;
    } in
    subst (λ both. AreColumnsOf both c.args.right.bit found) c.self.view_is
    (columns_made (lists_in c.self.inside) c.args.right.bit c.args.rights.now found
    c.in_ok-numbers.field-0.places.items c.self.inside.first_whoms.now c.self.inside.second_whoms.now
    (subst (λ both. AreRightsByNumber both c.args.rights.now) (sym c.self.view_is) c.requires) c.in_ok-numbers.ensures
    (subst (λ both. principals c.in_ok-principals.principals.items
    ≡ map (principal_at both) c.in_ok-numbers.field-0.numbers.items) (sym c.self.view_is)
    (c.in_ok-principals.ensures ∙ ap (map (principal_at c.args.self.now)) c.deref-3.ensures.value))
    c.in_ok-first.ensures.aces c.in_ok-second.ensures.aces
    (c.in_ok-first.ensures.whoms
    ∙ ap (λ v. all_renumbered v c.args.right.bit (aces_in c.self.inside.first.now) c.self.inside.first_whoms.now)
    c.deref.ensures.value)
    (c.in_ok-second.ensures.whoms
    ∙ ap (λ v. all_renumbered v c.args.right.bit (aces_in c.self.inside.second.now) c.self.inside.second_whoms.now)
    c.deref-2.ensures.value)
    (subst (λ ps. AreWhoms ps (aces_in c.self.inside.first.now) c.self.inside.first_whoms.now)
    c.self.invariant.mentioned c.self.invariant.first_whoms)
    (subst (λ ps. AreWhoms ps (aces_in c.self.inside.second.now) c.self.inside.second_whoms.now)
    c.self.invariant.mentioned c.self.invariant.second_whoms))
