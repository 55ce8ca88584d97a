-- The names of ids of the maps of the code (this library's own).
use Rattle.std.specs.Prelude.{ℕ, List, map, refl}
use Rattle.std.specs.Coded.{Coded, code_by, coded×, coded_list, coded_ℕ}
use Rattle.std.specs.Global.{Vec}
use Rattle.std.specs.FinMap as fin
use Rattle.acl_forms.specs.PosixNames.{NameOfId, NamesOfIds}

-- the names of a map from ids
abbrev pub names_by_id : List (ℕ × Vec ℕ) → NameOfId
names_by_id entries = fin.from_entries (map (λ entry. (entry.0, entry.1.items)) entries)

-- the names of ids as a pair
abbrev pub coded_names : Coded NamesOfIds
coded_names =
    code_by (NameOfId × NameOfId)
    (coded× (fin.code coded_ℕ (coded_list coded_ℕ)) (fin.code coded_ℕ (coded_list coded_ℕ)))
    (λ names. (names.users, names.groups)) (λ pair. record { users = pair.0; groups = pair.1 }) (λ names. refl)
