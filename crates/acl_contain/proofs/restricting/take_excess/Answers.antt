use Rattle.acl_normal.proofs.Common.{ace, aces_in, arith, length, length-map, subst, sym, ◌+◌, ◌<◌}
use Rattle.std.proofs.lemmas.List.{map-set}
use Rattle.acl_normal.specs.internal.comparison.FirstPlaces.{IsWhomWithin}
use Rattle.acl_contain.proofs.restriction.Keeping.{place_passed, place_taken}
use Rattle.acl_contain.proofs.restriction.Naming.{ace_there, all_placings, judged, named_at, named_count, placings_count}
use Rattle.acl_contain.proofs.restricting.take_excess.Goals as goal
use Rattle.acl_contain.proofs.restricting.take_excess.Goals.{then-is_excess, else-is_excess}
use Rattle.acl_contain.specs.internal.Kept.{HaveKept, Lacks}
use Rattle.acl_contain.specs.internal.Limits.{bound_of}

pub index-requires : goal.index-requires
index-requires c = omega (
  arith,
  named_count c.args.aces.now c.args.named.now c.requires.named,
  c.loop-place-test.true,
)

pub is_excess-requires-clause-whom : goal.is_excess-requires-clause-whom
is_excess-requires-clause-whom c =
    subst (IsWhomWithin c.index.result.now) (omega (
      arith,
      placings_count c.args.named.now c.args.right.bit c.args.limits.now c.requires.limits,
      c.args.limits.now.placings.ok,
    )) (named_at c.args.aces.now c.args.named.now c.loop-place.place c.index.result.now c.requires.named
    c.loop-place-test.true c.index.ensures).within

pub is_excess-requires-clause-some : goal.is_excess-requires-clause-some
is_excess-requires-clause-some c = omega (
  arith,
  all_placings (aces_in c.args.aces.now) c.args.named.now c.args.right.bit c.args.limits.now c.requires.named
      c.requires.limits,
)

pub loop-place-preserved : goal.loop-place-preserved
loop-place-preserved c =
    let list = aces_in c.args.aces.now in
    let bound = bound_of c.args.named.now in
    let place = c.loop-place.place in
    let bit = c.args.right.bit in
    let inside : place < length list = omega (arith, c.loop-place-test.true, length-map c.args.aces.now ace) in
    let found = judged c.args.aces.now c.args.named.now bit place c.args.limits.now c.index-aces-place.result
    c.index.result.now c.requires.named c.requires.limits c.args.limits.now.tables c.requires.list c.requires.bound
    c.loop-place-test.true c.index-aces-place.is c.index.ensures c.is_excess.ensures in
    elim c.if-is_excess.branch [
      | then-is_excess w ↦
          subst (λ v. HaveKept list bound bit (place + 1) (aces_in v.items)) (sym w.kept-is)
          (place_taken list bound bit place (aces_in c.loop-place.kept.items) _ (ace w.without.result) inside
          (found.1 w.if-is_excess.true).0 (found.1 w.if-is_excess.true).1
          (subst (λ v. Lacks bit v (ace w.without.result))
          (sym (ace_there c.loop-place.kept.items place w.index-then-is_excess.result.now
          (omega (arith, inside, c.loop-place.invariant.count, length-map c.loop-place.kept.items ace))
          w.index-then-is_excess.ensures)) w.without.ensures)
          (map-set ace c.loop-place.kept.items place w.without.result) c.loop-place.invariant)
      | else-is_excess w ↦
          subst (λ v. HaveKept list bound bit (place + 1) (aces_in v.items)) (sym w.kept-is)
          (place_passed list bound bit place (aces_in c.loop-place.kept.items) inside
          (found.0 w.if-is_excess.false) c.loop-place.invariant)
    ]
