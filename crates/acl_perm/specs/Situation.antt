-- Who requests access, and to whose object (RFC 8881, section 6.2.1.5).
use Rattle.std.specs.Prelude.{ℕ, ◌<◌, Bool, true, List, All, length}
use Rattle.std.specs.List.{list_any}
use Rattle.std.specs.Str.{bytes_eq}
use Rattle.acl_perm.specs.Principal.{Principal, owner, user, group, group_named, everyone}

-- an object's owner and owning group, a requesting user, and the set of groups of that user; the set is given as a
-- list, whose order and repeated members do not count
pub record Situation : Type 0 where
  pub owner_name : List ℕ
  pub owning_group : List ℕ
  pub user_name : List ℕ
  pub groups : List (List ℕ)

-- the name is one of a set of names
abbrev pub is_one_of : List ℕ → List (List ℕ) → Bool
is_one_of name names = list_any (bytes_eq name) names

-- the principal matches the requester: `OWNER@` the object's owner, `GROUP@` a member of the owning group, a user name
-- that user, a group name a member of that group, `EVERYONE@` everyone, also the owner and members of the group
abbrev pub matches : Situation → Principal → Bool
matches s owner = bytes_eq s.user_name s.owner_name
matches s (user name) = bytes_eq s.user_name name
matches s group = is_one_of s.owning_group s.groups
matches s (group_named name) = is_one_of name s.groups
matches s everyone = true

-- a name: at least one byte, and each byte is below 256
abbrev pub IsName : List ℕ → Type 0
IsName name = (0 < length name) × All (λ b. b < 256) name

-- each name of the situation is a name: grants are defined for such situations, overlaps of principals also for those
-- with empty names
pub record IsSituation (s : Situation) : Type 0 where
  pub owner_name : IsName s.owner_name
  pub owning_group : IsName s.owning_group
  pub user_name : IsName s.user_name
  pub groups : All IsName s.groups
