use Rattle.acl_nfs4.proofs.Common.{arith, ace, map, sym, ◌∙◌}
use Rattle.acl_nfs4.specs.UnknownGroups.{has_taken_name}
use Rattle.acl_nfs4.proofs.xdr.FirstPassing.{place_is, place_none}
use Rattle.acl_nfs4.proofs.xdr.unknown_groups.first_taken.Goals as goal

pub returns-then-has_taken_name : goal.returns-then-has_taken_name
returns-then-has_taken_name c =
    place_is (has_taken_name c.args.suffix.now (map ace c.args.aces.now)) c.args.aces.now c.loop-place.place
    c.index-aces-place.result
    c.loop-place.invariant c.loop-place-test.true c.index-aces-place.is
    (sym (c.has_taken_name.ensures c.args.aces.now c.requires) ∙ c.if-has_taken_name.true)

pub returns : goal.returns
returns c = place_none (has_taken_name c.args.suffix.now (map ace c.args.aces.now)) c.args.aces.now c.loop-place.place
    c.loop-place.invariant
    (let h = c.loop-place-test.false in omega arith)
