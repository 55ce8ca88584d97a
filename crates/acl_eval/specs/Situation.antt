-- What an object and a requester hold, and the situation of both (this library's own types, in the words of RFC 8881,
-- section 6.2.1.5).
use Rattle.std.specs.Prelude.{ℕ, ◌<◌, List, All, length, map}
use Rattle.acl_perm.specs.Situation.{Situation}
use Rattle.acl_eval.specs.GroupSearch.{groups_that_count}
use Rattle.acl_eval.specs.declared.groups.Groups.{Groups}
use Rattle.acl_eval.specs.declared.situation.Object.{Object}
use Rattle.acl_eval.specs.declared.situation.Requester.{Requester}

-- the name of the object's owner
abbrev pub owner_of : Object → List ℕ
owner_of object = object.owner.now

-- the name of the object's owning group
abbrev pub owning_group_of : Object → List ℕ
owning_group_of object = object.group.now

-- the name of the requester
abbrev pub user_of : Requester → List ℕ
user_of requester = requester.user.now

-- the names of groups that count
abbrev pub groups_among : Groups → List (List ℕ)
groups_among groups = groups_that_count groups.order (map (λ g. g.now) groups.names.now)

-- the names of the requester's groups
abbrev pub groups_of : Requester → List (List ℕ)
groups_of requester = groups_among requester.groups

-- the names that were given for the requester's groups: they are the groups, unless the caller said that they are in
-- order
abbrev pub given_groups_of : Requester → List (List ℕ)
given_groups_of requester = map (λ g. g.now) requester.groups.names.now

-- the situation of an object with this owner and this owning group, and of a user in these groups
abbrev pub named_situation : List ℕ → List ℕ → List ℕ → List (List ℕ) → Situation
named_situation owner group user groups =
    record { owner_name = owner; owning_group = group; user_name = user; groups = groups }

-- no name of the situation is empty
abbrev pub HasNoEmptyName : Situation → Type 0
HasNoEmptyName s = (0 < length s.owner_name) × (0 < length s.owning_group) × (0 < length s.user_name)
    × All (λ g. 0 < length g) s.groups

-- the situation in which the requester requests access to the object
abbrev pub situation : Object → Requester → Situation
situation object requester =
    named_situation (owner_of object) (owning_group_of object) (user_of requester) (groups_of requester)
