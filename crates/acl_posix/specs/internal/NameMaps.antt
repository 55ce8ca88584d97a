-- The table of the maps of the code (this library's own).
use Rattle.std.specs.Prelude.{ℕ, List, map, refl}
use Rattle.std.specs.Coded.{Coded, code_by, coded×, coded_list, coded_ℕ}
use Rattle.std.specs.Global.{Vec}
use Rattle.std.specs.FinMap as fin
use Rattle.acl_posix.specs.declared.id.Id.{Id}
use Rattle.acl_posix.specs.Names.{Ids, Table}

-- the ids of a map from names
abbrev pub ids_of : List (Vec ℕ × Id) → Ids
ids_of entries = fin.from_entries (map (λ entry. (entry.0.items, entry.1.value)) entries)

-- a table as a pair
abbrev pub coded_table : Coded Table
coded_table =
    code_by (Ids × Ids) (coded× (fin.code (coded_list coded_ℕ) coded_ℕ) (fin.code (coded_list coded_ℕ) coded_ℕ))
    (λ table. (table.users, table.groups)) (λ pair. record { users = pair.0; groups = pair.1 }) (λ table. refl)
