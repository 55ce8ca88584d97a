use Rattle.acl_normal.proofs.Common.{aces_in}
use Rattle.acl_normal.proofs.comparison.columns.add_rights.Given as goal
use Rattle.acl_normal.specs.internal.comparison.Columns.{AddRights}

abbrev pub invariant-loop-place : goal.invariant-loop-place
invariant-loop-place l = AddRights l.place (aces_in l.list) l.whoms l.fn.rights.items l.rights.items
