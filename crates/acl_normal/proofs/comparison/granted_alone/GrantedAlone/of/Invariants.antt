use Rattle.acl_normal.proofs.Common.{aces_in, AreWhoms, length, List, Principal, ◌≡◌}
use Rattle.acl_normal.proofs.comparison.GrantedAloneLemmas.{AreAloneSoFar}
use Rattle.acl_normal.proofs.comparison.granted_alone.GrantedAlone.of.Given as goal

abbrev pub invariant-loop-place : goal.invariant-loop-place
invariant-loop-place l = record {
  count : length l.named.items ≡ l.count;
  alone : (whole : List Principal) → length whole ≡ l.count → AreWhoms whole (aces_in l.list) l.whoms
      → AreAloneSoFar whole l.list l.place l.named.items l.everyone;
}
