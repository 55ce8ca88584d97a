use Rattle.acl_nfs4.proofs.Common.{ace, false, take, ◌≡◌}
use Rattle.std.specs.List.{list_any}
use Rattle.acl_nfs4.specs.UnknownGroups.{is_misnamed}
use Rattle.acl_nfs4.proofs.xdr.unknown_groups.first_misnamed.Given as goal

-- each ACE before the place gets a name
abbrev pub invariant-loop-place : goal.invariant-loop-place
invariant-loop-place l = list_any (λ a. is_misnamed l.suffix (ace a)) (take l.place l.aces) ≡ false
