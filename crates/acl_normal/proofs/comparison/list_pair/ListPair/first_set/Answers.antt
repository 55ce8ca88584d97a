use Rattle.acl_normal.proofs.Common.{arith, sym, ◌∙◌}
use Rattle.acl_normal.proofs.comparison.FoundOnAll.{alike_alone, found_nobody, found_one, found_two}
use Rattle.acl_normal.proofs.comparison.list_pair.ListPair.first_set.Goals as goal

pub returns-then-single-count-clause-found : goal.returns-then-single-count-clause-found
returns-then-single-count-clause-found c =
    found_one c.args.self.now c.if-not-grant_strangers_alike.ensures.alike c.in_ok-single.ensures
    (omega (arith, c.if-single-count.true, c.count.ensures))

pub found-requires : goal.found-requires
found-requires c = alike_alone c.args.self.now c.in_ok-single.ensures
    (omega (arith, c.if-single-count.false, c.count.ensures))

pub returns-then-found-count-clause-found : goal.returns-then-found-count-clause-found
returns-then-found-count-clause-found c =
    found_nobody c.args.self.now c.if-not-grant_strangers_alike.ensures.alike c.in_ok-single.ensures
    (omega (arith, c.if-single-count.false, c.count.ensures)) c.in_ok-found.ensures
    (c.if-found-count.true ∙ c.count-2.ensures)

pub returns-clause-found : goal.returns-clause-found
returns-clause-found c =
    (found_two c.args.self.now c.if-not-grant_strangers_alike.ensures.alike c.in_ok-single.ensures
    (omega (arith, c.if-single-count.false, c.count.ensures)) c.in_ok-found.ensures
    (λ e. c.if-found-count.false (e ∙ sym c.count-2.ensures))).0

pub returns-clause-within : goal.returns-clause-within
returns-clause-within c =
    (found_two c.args.self.now c.if-not-grant_strangers_alike.ensures.alike c.in_ok-single.ensures
    (omega (arith, c.if-single-count.false, c.count.ensures)) c.in_ok-found.ensures
    (λ e. c.if-found-count.false (e ∙ sym c.count-2.ensures))).1
