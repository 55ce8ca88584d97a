-- The mode of a list (RFC 8881, section 6.3.2): what it grants the owner, the group and others, as file mode bits.
use Rattle.std.specs.Prelude.{ℕ, ◌+◌, ◌==◌, Bool, ◌&&◌, ◌||◌, if◌then◌else◌, List}
use Rattle.acl_perm.specs.Mode.{mode_of_parts}
use Rattle.acl_perm.specs.Order.{principal_rank}
use Rattle.acl_perm.specs.Principal.{Principal, owner, group, is_everyone}
use Rattle.acl_nfs4.specs.Ace.{Ace}
use Rattle.acl_eval.specs.Column.{column, verdict}
use Rattle.acl_eval.specs.Grant.{is_allow}
use Rattle.acl_eval.specs.Permissions.{read_data, write_data, append_data, execute_right}

-- ACEs of `OWNER@`, the first in the order of principals, and of `EVERYONE@` decide for the owner
abbrev pub is_for_owner : Principal → Bool
is_for_owner p = principal_rank p == principal_rank owner || is_everyone p

-- ACEs of `GROUP@` and of `EVERYONE@` decide for the group
abbrev pub is_for_group : Principal → Bool
is_for_group p = principal_rank p == principal_rank group || is_everyone p

-- ACEs of `EVERYONE@` alone decide for others
abbrev pub is_for_others : Principal → Bool
is_for_others p = is_everyone p

-- the ACEs whose principal passes the test grant the bit
abbrev pub is_granted_by : (Principal → Bool) → List Ace → ℕ → Bool
is_granted_by test list bit = is_allow (verdict test (column list bit))

-- the permissions of a set of rights: read (4) by READ_DATA, write (2) by WRITE_DATA and APPEND_DATA together, execute
-- (1) by EXECUTE
abbrev pub perm_of : (ℕ → Bool) → ℕ
perm_of granted = (if granted read_data then 4 else 0)
    + (if granted write_data && granted append_data then 2 else 0)
    + (if granted execute_right then 1 else 0)

-- the mode of what is granted to the owner, the group and others
abbrev pub mode_of_list : List Ace → ℕ
mode_of_list list = mode_of_parts (perm_of (is_granted_by is_for_owner list))
    (perm_of (is_granted_by is_for_group list)) (perm_of (is_granted_by is_for_others list))
