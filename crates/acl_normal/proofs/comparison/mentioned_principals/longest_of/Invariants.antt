use Rattle.std.specs.Prelude.{◌<◌, ◌^◌}
use Rattle.acl_normal.proofs.comparison.mentioned_principals.longest_of.Given as goal
use Rattle.acl_normal.proofs.comparison.MentionedNames.{IsLongest}

abbrev pub invariant-loop-p : goal.invariant-loop-p
invariant-loop-p l = record { longest : IsLongest l.whole l.most l.p-index; small : l.most < 2 ^ 63 }
