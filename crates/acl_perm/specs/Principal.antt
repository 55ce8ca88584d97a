-- Whom an ACE names (RFC 8881, section 6.2.1.5).
use Rattle.std.specs.Prelude.{ℕ, List, [], Bool, true, false}
use Rattle.acl_perm.specs.declared.principal.Principal.{Principal as PrincipalRef}
use Rattle.acl_perm.specs.declared.principal.Principal.TheVariants as code

-- a principal without the place in memory of its name: `OWNER@`, a user name, `GROUP@`, a group name, or `EVERYONE@`; a
-- name is a list of bytes
pub data Principal : Type 0 where
  owner : Principal
  user : (name : List ℕ) → Principal
  group : Principal
  group_named : (name : List ℕ) → Principal
  everyone : Principal

-- the facts about a principal: its place in the order, its name, which is empty if it has none, and whether it is a
-- user name or `EVERYONE@`
pub record Row : Type 0 where
  pub rank : ℕ
  pub name : List ℕ
  pub is_user : Bool
  pub is_everyone : Bool

-- the facts about each principal; their order is `OWNER@`, users, `GROUP@`, groups, `EVERYONE@`
abbrev pub row : Principal → Row
row owner = record { rank = 0; name = []; is_user = false; is_everyone = false }
row (user name) = record { rank = 1; name = name; is_user = true; is_everyone = false }
row group = record { rank = 2; name = []; is_user = false; is_everyone = false }
row (group_named name) = record { rank = 3; name = name; is_user = false; is_everyone = false }
row everyone = record { rank = 4; name = []; is_user = false; is_everyone = true }

-- the plain data of a principal of the code
abbrev pub principal : PrincipalRef → Principal
principal code.Owner = owner
principal (code.User name) = user name.now
principal code.Group = group
principal (code.GroupNamed name) = group_named name.now
principal code.Everyone = everyone

-- the principal is a user name
abbrev pub is_user : Principal → Bool
is_user p = (row p).is_user

-- the principal is `EVERYONE@`
abbrev pub is_everyone : Principal → Bool
is_everyone p = (row p).is_everyone
