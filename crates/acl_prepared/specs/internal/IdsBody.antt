-- What is known while a prepared list of ids is made and read: this library's own.
use Rattle.std.specs.Prelude.{◌≡◌, ℕ, ◌<◌, ◌^◌, ◌==◌, List, true, Option, None, Some, if◌then◌else◌}
use Rattle.std.specs.Fmt.{decimal}
use Rattle.std.specs.List.{AllByRecursion}
use Rattle.std.specs.Str.Parse.{digits_value}
use Rattle.acl_perm.specs.Bits.{IsMask}
use Rattle.acl_perm.specs.Order.{principal_name, principal_rank}
use Rattle.acl_perm.specs.Principal.{Principal, owner, user, group, group_named, everyone}
use Rattle.acl_nfs4.specs.Ace.{Ace}
use Rattle.acl_nfs4.specs.Who.{principal_of}
use Rattle.acl_eval.specs.Column.{takes_part}
use Rattle.acl_prepared.specs.declared.id_ace.PreparedIdAce.{PreparedIdAce}
use Rattle.acl_prepared.specs.declared.id_ace.IdPrincipal.{IdPrincipal}
use Rattle.acl_prepared.specs.declared.id_ace.IdPrincipal.TheVariants as code

-- the id, or 0 if there is none
abbrev pub id_or_zero : Option ℕ → ℕ
id_or_zero None = 0
id_or_zero (Some id) = id

-- the principal of this rank whose name is the digits of this id
abbrev pub principal_from : ℕ → ℕ → Principal
principal_from rank id = if rank == 0 then owner
    else (if rank == 1 then user (decimal id)
    else (if rank == 2 then group
    else (if rank == 3 then group_named (decimal id) else everyone)))

-- whom an ACE names, with the digits of an id for its name
abbrev pub id_principal : IdPrincipal → Principal
id_principal code.Owner = owner
id_principal (code.User id) = user (decimal id)
id_principal code.Group = group
id_principal (code.GroupNamed id) = group_named (decimal id)
id_principal code.Everyone = everyone

-- whom an ACE names that was read
abbrev pub principal_read : PreparedIdAce → Principal
principal_read read = principal_from read.rank read.id

-- what was read is this ACE
pub record IsIdReadAs (a : Ace) (read : PreparedIdAce) : Type 0 where
  pub mask : read.mask.bits ≡ a.mask
  pub kind : read.kind ≡ a.kind
  pub whom : principal_read read ≡ principal_of a

-- a valid ACE that takes part, and whose name is the digits of an id
pub record IsIdPart (a : Ace) : Type 0 where
  pub mask : IsMask a.mask
  pub part : takes_part a ≡ true
  pub id : digits_value 10 (principal_name (principal_of a)) < 2 ^ 32
  pub named : principal_from (principal_rank (principal_of a)) (digits_value 10 (principal_name (principal_of a)))
      ≡ principal_of a

-- valid ACEs that take part, and whose names are the digits of ids
abbrev pub AreIdParts : List Ace → Type 0
AreIdParts list = AllByRecursion IsIdPart list
