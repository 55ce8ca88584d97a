use Rattle.acl_nfs4.proofs.Common.{arith, sym, ◌∙◌}
use Rattle.acl_nfs4.specs.UnknownGroups.{is_misnamed}
use Rattle.acl_nfs4.proofs.xdr.FirstPassing.{place_is, place_none}
use Rattle.acl_nfs4.proofs.xdr.unknown_groups.first_misnamed.Goals as goal

pub returns-then-is_misnamed : goal.returns-then-is_misnamed
returns-then-is_misnamed c =
    place_is (is_misnamed c.args.suffix.now) c.args.aces.now c.loop-place.place c.index-aces-place.result
    c.loop-place.invariant c.loop-place-test.true c.index-aces-place.is
    (sym c.is_misnamed.ensures ∙ c.if-is_misnamed.true)

pub returns : goal.returns
returns c = place_none (is_misnamed c.args.suffix.now) c.args.aces.now c.loop-place.place c.loop-place.invariant
    (let h = c.loop-place-test.false in omega arith)
