-- A list for one object, in which the names of the object's owner and of its owning group stand for `OWNER@` and
-- `GROUP@` (this library's own, over RFC 8881, section 6.2.1.5).
use Rattle.std.specs.Prelude.{◌≡◌, ◌↔◌, ⊤, ℕ, Bool, false, not, List, map, Option, Some, bit_or}
use Rattle.std.specs.List.{position_from}
use Rattle.acl_perm.specs.Bits.{IsSubset, identifier_group_alone}
use Rattle.acl_perm.specs.Principal.{Principal, owner, user, group, group_named, everyone}
use Rattle.acl_perm.specs.Situation.{IsSituation}
use Rattle.acl_nfs4.specs.Ace.{Ace}
use Rattle.acl_nfs4.specs.Renamed.{is_account}
use Rattle.acl_nfs4.specs.Who.{principal_of}
use Rattle.acl_eval.specs.Grant.{Grant}
use Rattle.acl_eval.specs.Scan.{without}
use Rattle.acl_eval.specs.Situation.{named_situation}
use Rattle.acl_change.specs.declared.resolving.ResolveFault.{ResolveFault}
use Rattle.acl_change.specs.declared.resolving.ResolveFault.TheVariants as fault

-- the ACE of this user
abbrev pub for_user : List ℕ → Ace → Ace
for_user name a =
    record { kind = a.kind; flags = without a.flags identifier_group_alone; mask = a.mask; who = name }

-- the ACE of the group with this name
abbrev pub for_group : List ℕ → Ace → Ace
for_group name a = record { kind = a.kind; flags = bit_or a.flags identifier_group_alone; mask = a.mask; who = name }

-- what becomes of an ACE that names a principal, for an object with this owner and this owning group
abbrev pub resolved_by : List ℕ → List ℕ → Principal → Ace → Ace
resolved_by owner_name owning_group owner a = for_user owner_name a
resolved_by owner_name owning_group group a = for_group owning_group a
resolved_by owner_name owning_group (user name) a = a
resolved_by owner_name owning_group (group_named name) a = a
resolved_by owner_name owning_group everyone a = a

-- an ACE of `OWNER@` becomes one of the user who owns the object, without IDENTIFIER_GROUP; an ACE of `GROUP@` becomes
-- one of the owning group, with IDENTIFIER_GROUP; any other ACE stays
abbrev pub resolved_ace : List ℕ → List ℕ → Ace → Ace
resolved_ace owner_name owning_group a = resolved_by owner_name owning_group (principal_of a) a

-- the list for an object with this owner and this owning group
abbrev pub resolved_list : List ℕ → List ℕ → List Ace → List Ace
resolved_list owner_name owning_group list = map (resolved_ace owner_name owning_group) list

-- the principal needs the name of the owner or of the owning group, and this name is not valid as a who or is a special
-- identifier
abbrev pub lacks_name : List ℕ → List ℕ → Principal → Bool
lacks_name owner_name owning_group owner = not (is_account owner_name)
lacks_name owner_name owning_group group = not (is_account owning_group)
lacks_name owner_name owning_group (user name) = false
lacks_name owner_name owning_group (group_named name) = false
lacks_name owner_name owning_group everyone = false

-- the place of the first ACE that needs such a name
abbrev pub first_nameless : List ℕ → List ℕ → List Ace → Option ℕ
first_nameless owner_name owning_group list =
    position_from (λ a. lacks_name owner_name owning_group (principal_of a)) 0 list

-- a fault: the place of the first ACE that needs a name that no ACE can have, or memory ran out
abbrev pub IsResolveFault : List ℕ → List ℕ → List Ace → ResolveFault → Type 0
IsResolveFault owner_name owning_group list (fault.Name place) =
    first_nameless owner_name owning_group list ≡ Some place
IsResolveFault owner_name owning_group list fault.Memory = ⊤

-- ---- what two lists grant for one object

-- for an object with this owner and this owning group, both lists grant each requester the same of a set of rights
abbrev pub SameGrantsFor : List ℕ → List ℕ → ℕ → List Ace → List Ace → Type 0
SameGrantsFor owner_name owning_group rights list other = (user : List ℕ) (groups : List (List ℕ))
    → IsSituation (named_situation owner_name owning_group user groups) → (request : ℕ) → IsSubset request rights
    → Grant list (named_situation owner_name owning_group user groups) request
    ↔ Grant other (named_situation owner_name owning_group user groups) request

-- for such an object, the second list grants each requester whatever the first list grants of a set of rights
abbrev pub GrantsAtMostFor : List ℕ → List ℕ → ℕ → List Ace → List Ace → Type 0
GrantsAtMostFor owner_name owning_group rights list other = (user : List ℕ) (groups : List (List ℕ))
    → IsSituation (named_situation owner_name owning_group user groups) → (request : ℕ) → IsSubset request rights
    → Grant list (named_situation owner_name owning_group user groups) request
    → Grant other (named_situation owner_name owning_group user groups) request
