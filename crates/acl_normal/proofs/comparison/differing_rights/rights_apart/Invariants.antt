use Rattle.acl_normal.proofs.Common.{aces_in, AreWhoms, IsMask, length, List, Principal, ◌+◌, ◌-◌, ◌≤◌}
use Rattle.acl_normal.proofs.comparison.differing_rights.rights_apart.Given as goal
use Rattle.acl_normal.proofs.comparison.DifferingRightsLemmas.{AreWalked}

abbrev pub invariant-loop-here : goal.invariant-loop-here
invariant-loop-here l = record {
  walked : (whole : List Principal) → AreWhoms whole (aces_in l.list) l.whoms
      → AreWhoms whole (aces_in l.other) l.other_whoms → AreWalked l.list l.other l.here l.there l.apart.0;
  apart : IsMask l.apart.0;
  here : l.here ≤ length l.list;
  there : l.there ≤ length l.other;
}

abbrev pub decreases-loop-here : goal.decreases-loop-here
decreases-loop-here l = (length l.list - l.here) + (length l.other - l.there)
