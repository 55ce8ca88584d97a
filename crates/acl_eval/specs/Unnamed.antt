-- Lists without the ACEs of user names and group names (RFC 8881, section 6.3.2, does not use these for a mode).
use Rattle.std.specs.Prelude.{Bool, ◌||◌, List, filter}
use Rattle.acl_perm.specs.Principal.{Principal}
use Rattle.acl_nfs4.specs.Ace.{Ace}
use Rattle.acl_nfs4.specs.Who.{principal_of}
use Rattle.acl_eval.specs.ListMode.{is_for_group, is_for_owner}

-- the principal is `OWNER@`, `GROUP@` or `EVERYONE@`: it decides for the owner, or for the group
abbrev pub is_unnamed : Principal → Bool
is_unnamed p = is_for_owner p || is_for_group p

-- the ACEs of a list that name one of these three
abbrev pub unnamed : List Ace → List Ace
unnamed list = filter (λ a. is_unnamed (principal_of a)) list
