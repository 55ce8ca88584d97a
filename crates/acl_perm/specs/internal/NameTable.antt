-- A table that names bits, as the code holds it (this library's own).
use Rattle.std.specs.Prelude.{ℕ, List, map, option_map}
use Rattle.acl_perm.specs.Names.{BitName}
use Rattle.acl_perm.specs.declared.bit_names.BitName.{BitName as Row}

-- the row of the specification for a row of the code
abbrev pub bit_name_of : Row → BitName
bit_name_of r = record { bit = r.bit; name = r.name.now; second = option_map (λ s. s.now) r.second }

-- the table of the specification for a table of the code
abbrev pub bit_names_of : List Row → List BitName
bit_names_of rows = map bit_name_of rows

-- the greatest number of bytes in the name of a kind
abbrev pub longest_kind_name : ℕ
longest_kind_name = 5
