-- The names of the list of a POSIX ACL, and when the list is accepted (this library's own).
use Rattle.std.specs.Prelude.{ℕ, ◌≡◌, ◌≤◌, ◌↔◌, IsFalse, length}
use Rattle.std.specs.Fmt.{decimal}
use Rattle.acl_perm.specs.Profile.{full}
use Rattle.acl_posix.specs.Id.{IsId}
use Rattle.acl_posix.specs.Entries.{Entries}
use Rattle.acl_posix.specs.Texts.{IsAcl}
use Rattle.acl_nfs4.specs.Limits.{most_aces, most_weight}
use Rattle.acl_nfs4.specs.Who.{IsWho, is_special}
use Rattle.acl_nfs4.specs.Spelling.{IsAccepted, weight}
use Rattle.acl_eval.specs.Bridge.{bridge_list}

-- different ids have different names
abbrev pub NamesDiffer : Type 0
NamesDiffer = (m n : ℕ) → IsId m → IsId n → decimal m ≡ decimal n → m ≡ n

-- each name is valid as a who, and none is a special identifier
abbrev pub NamesAreValid : Type 0
NamesAreValid = (n : ℕ) → IsId n → IsWho (decimal n) × IsFalse (is_special (decimal n))

-- only the limits of a list refuse the list of a valid ACL
abbrev pub OnlyLimitsRefuse : Type 0
OnlyLimitsRefuse = (entries : Entries) → IsAcl entries
    → IsAccepted full (bridge_list entries)
    ↔ ((length (bridge_list entries) ≤ most_aces) × (weight (bridge_list entries) ≤ most_weight))
