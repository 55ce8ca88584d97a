use Rattle.acl_normal.proofs.Common.{ap, arith, drop, length, refl, subst, sym, TwoLists, ◌+◌, ◌∙◌}
use Rattle.acl_normal.proofs.comparison.FoundOnRight.{found_nothing, found_pair, none_unlike, within_columns}
use Rattle.acl_normal.proofs.comparison.list_pair.ListPair.found_on.Goals as goal
use Rattle.acl_normal.specs.internal.comparison.Columns.{IsNumberOr}

pub first_inverting-requires-clause-limit : goal.first_inverting-requires-clause-limit
first_inverting-requires-clause-limit c =
    omega (arith, c.len-end.ensures, c.in_ok-placings.placings.ok.0, ap length c.deref.ensures.value)

pub first_inverting-requires-clause-places : goal.first_inverting-requires-clause-places
first_inverting-requires-clause-places c =
    within_columns c.args.self.now c.args.right.bit c.in_ok-columns.columns c.in_ok-placings.placings.items
    c.in_ok-columns.ensures c.in_ok-placings.ensures c.deref.ensures.value c.longer.ensures.first
    c.longer.ensures.second

pub first_inverting-requires-clause-alone : goal.first_inverting-requires-clause-alone
first_inverting-requires-clause-alone c =
    none_unlike c.args.self.now c.args.right.bit c.in_ok-columns.columns c.in_ok-placings.placings.items
    c.in_ok-columns.ensures c.in_ok-placings.ensures
    (λ k l. c.requires.alone k l c.args.right.bit c.requires.right)
    (ap (λ (both : TwoLists). both.direction) c.self.view_is) c.deref.ensures.value

pub returns-then-member-end : goal.returns-then-member-end
returns-then-member-end c =
    found_nothing c.args.self.now c.args.right.bit c.in_ok-columns.columns c.in_ok-placings.placings.items
    c.in_ok-columns.ensures c.in_ok-placings.ensures
    (λ k l. c.requires.alone k l c.args.right.bit c.requires.right)
    (ap (λ (both : TwoLists). both.direction) c.self.view_is) c.deref.ensures.value
    (omega (arith, c.len-end.ensures, c.in_ok-placings.placings.ok.0))
    (omega (arith, c.if-member-end.true)) c.in_ok-member.ensures c.nothing.ensures

pub split_at-requires : goal.split_at-requires
split_at-requires c =
    let within = c.in_ok-member.ensures.within in
    omega (
      arith,
      within,
      c.if-member-end.false,
      c.len-end.ensures,
      c.in_ok-placings.placings.ok.0,
      ap length c.as_slice.ensures.value,
    )

pub returns : goal.returns
returns c =
    let within = c.in_ok-member.ensures.within in
    found_pair c.args.self.now c.args.right.bit c.in_ok-columns.columns c.in_ok-placings.placings.items
    c.in_ok-columns.ensures c.in_ok-placings.ensures
    (λ k l. c.requires.alone k l c.args.right.bit c.requires.right)
    (ap (λ (both : TwoLists). both.direction) c.self.view_is) c.deref.ensures.value
    (omega (arith, c.len-end.ensures, c.in_ok-placings.placings.ok.0))
    (omega (arith, within, c.if-member-end.false)) c.in_ok-member.ensures c.index.ensures
    (c.split_at.ensures.back
    ∙ ap (drop (c.in_ok-member.member + 1)) (c.as_slice.ensures.value ∙ sym c.deref.ensures.value))
    refl c.first_inverted-partner.ensures
    (subst (λ n. IsNumberOr c.in_ok-columns.columns.numbers.items c.in_ok-member.member n c.number.result)
    c.count-count.ensures c.number.ensures)
    (subst (λ n. IsNumberOr c.in_ok-columns.columns.numbers.items
    (c.in_ok-member.member + 1 + c.first_inverted-partner.result) n c.number-2.result)
    c.count-count.ensures c.number-2.ensures)
