-- The fault of a tag that occurs twice (acl(5), "VALID ACLs").
use Rattle.std.specs.Prelude.{ℕ, if◌then◌else◌}
use Rattle.acl_posix.specs.declared.fault.AclFault.{AclFault}
use Rattle.acl_posix.specs.declared.fault.AclFault.TheVariants.{Multi, Duplicate}
use Rattle.acl_posix.specs.Tag.{Tag, is_named}

-- the fault of a tag that occurs twice
abbrev pub repeat_fault : Tag → ℕ → AclFault
repeat_fault tag place = if is_named tag then Duplicate place else Multi place
