use Rattle.acl_nfs4.proofs.Common.{ace, false, map, take, ◌≡◌}
use Rattle.std.specs.List.{list_any}
use Rattle.acl_nfs4.specs.UnknownGroups.{has_taken_name}
use Rattle.acl_nfs4.proofs.xdr.unknown_groups.first_taken.Given as goal

-- no ACE before the place is for a group that has the name of another
abbrev pub invariant-loop-place : goal.invariant-loop-place
invariant-loop-place l = list_any (λ a. has_taken_name l.suffix (map ace l.aces) (ace a)) (take l.place l.aces) ≡ false
