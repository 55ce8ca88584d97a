-- The sets of principals that the code of a comparison holds (this library's own).
use Rattle.std.specs.Prelude.{List, [], ◌∷◌, Option, Some, None}
use Rattle.acl_normal.specs.declared.comparison.small_set.SmallSet.TheVariants as code
use Rattle.acl_perm.specs.Principal.{Principal, principal}
use Rattle.acl_normal.specs.declared.comparison.small_set.SmallSet.{SmallSet}

-- the principals of a set of the code
abbrev pub set_of : SmallSet → List Principal
set_of code.Empty = []
set_of (code.One p) = principal p ∷ []
set_of (code.Two p q) = principal p ∷ principal q ∷ []

-- those of the set that was found, if one was
abbrev pub set_or_none : Option SmallSet → Option (List Principal)
set_or_none None = None
set_or_none (Some set) = Some (set_of set)
