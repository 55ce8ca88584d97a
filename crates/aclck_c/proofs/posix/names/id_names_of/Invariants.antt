use Rattle.std.specs.Prelude.{◌≡◌, drop}
use Rattle.acl_posix.specs.Names.{empty_table}
use Rattle.aclck_c.specs.Names.{id_names_added, names_added, names_of_ids}
use Rattle.aclck_c.proofs.posix.names.id_names_of.Given as goal

-- the names that are left, added to the table and to the names of the ids so far, make what all of them make
abbrev pub invariant-loop-name : goal.invariant-loop-name
invariant-loop-name l = record {
  table : names_added empty_table l.names ≡ names_added l.table (drop l.name-index l.names);
  ids : names_of_ids l.names ≡ id_names_added l.ids (drop l.name-index l.names);
}
