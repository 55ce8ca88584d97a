use Rattle.std.proofs.Common.{◌-◌, length, arith}
use Rattle.acl_perm.proofs.PlaceLemmas.{first_place, last_place}
use Rattle.acl_perm.proofs.place.place_in_long.Goals as goal

pub returns-then-place-lt-LONG : goal.returns-then-place-lt-LONG
returns-then-place-lt-LONG c = first_place c.args.wanted c.args.bytes.now c.loop-at.at 16 c.place_in-place.result
    c.loop-at.invariant.absent (let h = c.loop-at-test.true in omega arith) c.if-place-lt-LONG.true
    c.place_in-place.ensures

pub returns : goal.returns
returns c = last_place c.args.wanted c.args.bytes.now (length c.args.bytes.now - 16) c.loop-at.at 16 c.place_in.result
    c.loop-at.invariant.absent (let h = c.loop-at-test.false in omega arith) (omega (arith, c.requires))
    c.place_in.ensures
