use Rattle.std.proofs.Common.{sym}
use Rattle.acl_prepared.proofs.IdGroups.{same_digits}
use Rattle.acl_prepared.proofs.id_request.is_same.Goals as goal

pub returns : goal.returns
returns c = sym (same_digits c.args.first c.args.second c.ranges.first.fits c.ranges.second.fits)
