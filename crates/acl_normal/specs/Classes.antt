-- The two classes of principals (this library's own; two different users never match one requester, RFC 8881, section
-- 6.2.1.5).
use Rattle.std.specs.Prelude.{Bool, true, false}
use Rattle.acl_normal.specs.declared.principal_class.Class.{Class}
use Rattle.acl_normal.specs.declared.principal_class.Class.TheVariants.{Others, Users}

-- the class is that of users
abbrev pub is_users : Class → Bool
is_users Users = true
is_users Others = false
