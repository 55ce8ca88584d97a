-- What is reported of what is lost with the POSIX ACL of a list.
use Rattle.std.proofs.Common.{◌≡◌, List, Option, None, Some, inl, inr, refl}
use Rattle.std.specs.Prelude.{◌≤◌, ◌↔◌, IfSome, length}
use Rattle.acl_posix.specs.Entries.{Entries}
use Rattle.acl_nfs4.specs.Ace.{Ace}
use Rattle.acl_to_posix.specs.LostGrants.{IsExact, IsLossOf}
use Rattle.acl_to_posix.specs.declared.losing.LostGrant.{LostGrant}
use Rattle.aclck_c.specs.ToPosix.{LosesBy, loss_numbers}
use Rattle.aclck_c.specs.declared.nfs4.to_posix.RawPosixLoss.{RawPosixLoss}

-- the numbers of a loss, or of none
pub loses_by : (list : List Ace) (acl : Entries) (lost : Option LostGrant) (loss : RawPosixLoss)
    → IfSome lost (IsLossOf list acl) → (lost ≡ None) ↔ IsExact list acl → loss ≡ loss_numbers lost
    → LosesBy list acl loss
loses_by list acl None loss found exact is = inl (exact.0 refl, is)
loses_by list acl (Some lost) loss found exact is = inr (record { lost = lost; is_loss = found; is = is })

-- a requester who loses something is in at most three groups
pub few_groups : (list : List Ace) (acl : Entries) (lost : Option LostGrant) → IfSome lost (IsLossOf list acl)
    → IfSome lost (λ found. length found.groups.items ≤ 3)
few_groups list acl None found = tt
few_groups list acl (Some lost) found = found.few
