use Rattle.std.proofs.Common.{arith}
use Rattle.acl_prepared.proofs.NameHashes.{hash_set}
use Rattle.acl_prepared.proofs.hash_matching.mark.Goals as goal

pub returns : goal.returns
returns c = hash_set c.args.marks.now c.args.hash (omega (arith, c.told-marks, c.ranges.hash.fits))
