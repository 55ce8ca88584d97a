-- The names of the requester of a difference, which are borrowed from it (this library's own type).
use Rattle.std.specs.Prelude.{ℕ, List, map, take}
use Rattle.acl_normal.specs.declared.comparison.requester_names.RequesterNames.{RequesterNames}

-- the name of the user
abbrev pub user_in : RequesterNames → List ℕ
user_in a = a.user.now

-- the names of the groups
abbrev pub groups_in : RequesterNames → List (List ℕ)
groups_in a = map (λ g. g.now) (take a.count a.names)
