use Rattle.std.specs.Prelude.{◌≡◌, drop}
use Rattle.acl_posix.specs.Names.{empty_table}
use Rattle.aclck_c.specs.Names.{names_added}
use Rattle.aclck_c.proofs.posix.names.table_of.Given as goal

-- the names that are left, added to the table so far, make what all of them make
abbrev pub invariant-loop-name : goal.invariant-loop-name
invariant-loop-name l = names_added empty_table l.names ≡ names_added l.table (drop l.name-index l.names)
