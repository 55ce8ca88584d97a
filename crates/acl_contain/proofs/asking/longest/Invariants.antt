use Rattle.acl_normal.proofs.Common.{drop, longest, max, principals, ◌<◌, ◌^◌, ◌≡◌}
use Rattle.acl_contain.proofs.asking.longest.Given as goal

-- the longest name is the longest so far or of the rest
abbrev pub invariant-loop-p : goal.invariant-loop-p
invariant-loop-p l = record {
  longest : max l.most (longest (principals (drop l.p-index l.whole))) ≡ longest (principals l.whole);
  small : l.most < 2 ^ 63;
}
