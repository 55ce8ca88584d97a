-- What a hasher is fed of a principal (this library's own).
use Rattle.std.specs.Prelude.{◌++◌}
use Rattle.std.specs.Hash.{HashWrites}
use Rattle.std.specs.Hash as fed
use Rattle.acl_perm.specs.Principal.{Principal}
use Rattle.acl_perm.specs.Order.{principal_rank, principal_name}

-- the rank, and then the name
abbrev pub principal_writes : Principal → HashWrites
principal_writes p = fed.u8 (principal_rank p) ++ fed.slice fed.u8 (principal_name p)
