use borrow.Author.Count.{below_more}
use Rattle.std.proofs.Common.{ap, arith, false, rules, sym, tests, true, ◌∙◌, ◌≡◌}
use Rattle.std.proofs.lemmas.Bool.{false≢true}
use Rattle.std.proofs.lemmas.Iterator.{YieldsList-from_slice, cases_from_any}
use Rattle.acl_normal.proofs.Common.{is_selected, no_placing}
use Rattle.acl_normal.proofs.comparison.inversions.first_of.Goals as goal
use Rattle.acl_normal.proofs.comparison.FirstInverting.{first_selected, near_end, near_is, not_selected}
use Rattle.acl_normal.specs.internal.comparison.PlaceTables.{is_inverting}

pub returns-then-not-any : goal.returns-then-not-any
returns-then-not-any c =
    let none = cases_from_any _ _ _ (λ r. is_selected c.args.selection r ≡ true)
    (λ r. is_selected c.args.selection r ≡ false)
    c.any.ensures.ran (YieldsList-from_slice c.args.placings.now cc) (λ x q k. search (rules, tests))
    (λ x q k. search (rules, tests)) in
    let all = rw c.if-not-any.true at none in
    record {
      within = omega arith;
      before = λ k l is. absurd (false≢true
          (sym (all k no_placing (omega arith) (omega (arith, l, c.requires.limit))) ∙ is));
      at = λ l. absurd (omega (arith, l));
    }

pub returns-then-is_inverting : goal.returns-then-is_inverting
returns-then-is_inverting c =
    first_selected
    (near_is _ no_placing c.split_at.ensures.front c.requires.limit c.loop-k-test.true).0
    c.requires.limit c.loop-k.invariant c.requires.alone c.requires.places
    c.in_ok-forward.ensures c.in_ok-back.ensures c.deref.ensures.value c.deref-in-loop-k.ensures.value
    (c.is_inverting.ensures
    ∙ ap (λ r. is_inverting c.args.selection r c.deref.result.now c.deref-in-loop-k.result.now)
    (near_is _ _ c.split_at.ensures.front c.requires.limit c.loop-k-test.true).1)
    c.if-is_inverting.true

pub loop-k-preserved : goal.loop-k-preserved
loop-k-preserved c =
    below_more _ _ c.loop-k.invariant
    (not_selected
    (omega (
      arith,
      (near_is _ no_placing c.split_at.ensures.front c.requires.limit c.loop-k-test.true).0,
      c.requires.limit,
    )) c.requires.alone c.requires.places
    c.in_ok-forward.ensures c.in_ok-back.ensures c.deref.ensures.value c.deref-in-loop-k.ensures.value
    (c.is_inverting.ensures
    ∙ ap (λ r. is_inverting c.args.selection r c.deref.result.now c.deref-in-loop-k.result.now)
    (near_is _ _ c.split_at.ensures.front c.requires.limit c.loop-k-test.true).1)
    c.if-is_inverting.false)

pub returns : goal.returns
returns c =
    let end = near_end _ c.split_at.ensures.front c.requires.limit c.loop-k-test.false in record {
      within = omega arith;
      before = λ k l. c.loop-k.invariant k (omega (arith, l, end));
      at = λ l. absurd (omega (arith, l));
    }
