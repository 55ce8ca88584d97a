use Rattle.std.proofs.Common.{refl}
use Rattle.std.specs.List.{All}
use Rattle.acl_normal.proofs.Common.{aces_in, arith, length, subst, sym}
use Rattle.std.proofs.lemmas.List.Elements.{All-push}
use Rattle.acl_normal.proofs.rows.Beginnings.{IsHeaded, headed_all, headed_here}
use Rattle.acl_normal.proofs.rows.SortedNames.{named_more}
use Rattle.acl_normal.proofs.rows.numbers.headed_places.Goals as goal

pub loop-place-preserved : goal.loop-place-preserved
loop-place-preserved c =
    let common = length c.common_start-common.result.now in
    let xs = aces_in c.args.aces.now in record {
      names = named_more c.args.aces.now c.loop-place.places.items c.push.new.self.items c.loop-place.place
          c.index-aces-place.result _ c.loop-place-test.true c.index-aces-place.is refl c.in_ok-push.ensures.items
          c.loop-place.invariant.names;
      heads = subst (All (IsHeaded common xs)) (sym c.in_ok-push.ensures.items)
          (All-push (IsHeaded common xs) c.loop-place.places.items _ c.loop-place.invariant.heads
          (headed_here common c.args.aces.now c.loop-place.place c.index-aces-place.result c.head.result
          c.loop-place-test.true c.index-aces-place.is c.whom.ensures c.head.ensures));
    }

pub returns : goal.returns
returns c =
    headed_all c.common_start-common.result.now c.args.aces.now c.loop-place.places.items c.loop-place.place
    (omega (arith, c.loop-place-test.false)) c.common_start-common.ensures c.loop-place.invariant.names
    c.loop-place.invariant.heads
