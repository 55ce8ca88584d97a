-- The keys of a column that play a part, without a look at any situation (this library's own, over RFC 8881, section
-- 6.2.1).
use Rattle.std.specs.Prelude.{Bool, false, if◌then◌else◌, not, ◌||◌, ◌&&◌, [], ◌∷◌, ◌++◌, is_none}
use Rattle.acl_perm.specs.Principal.{Principal, everyone}
use Rattle.acl_perm.specs.Overlap.{may_overlap}
use Rattle.acl_perm.specs.declared.kind.Kind.{Kind}
use Rattle.acl_perm.specs.declared.kind.Kind.TheVariants.{Allow}
use Rattle.acl_eval.specs.Column.{Column, first_kind, verdict}
use Rattle.acl_normal.specs.Keys.{principal_eq, kind_eq}
use Rattle.acl_normal.specs.internal.Alike.{is_either}

-- the keys of c whose principal, or everyone, has no key before them; `before` is the part of the column before c
abbrev pub unshadowed : Column → Column → Column
unshadowed before [] = []
unshadowed before ((p, k) ∷ c) =
    let rest = unshadowed (before ++ (p, k) ∷ []) c in
    if is_none (first_kind (is_either p everyone) before) then (p, k) ∷ rest else rest

-- what a column decides if nobody matches by name
abbrev pub default : Column → Kind
default c = verdict (is_either everyone everyone) c

-- some key of another kind has a principal that overlaps
abbrev pub has_opposite : Kind → Principal → Column → Bool
has_opposite d p [] = false
has_opposite d p ((q, j) ∷ c) = (may_overlap p q && not (kind_eq j d)) || has_opposite d p c

-- the key before r is needed, if d is the default
abbrev pub is_needed : Kind → Principal → Kind → Column → Bool
is_needed d p k r = if principal_eq p everyone then kind_eq k Allow else (not (kind_eq k d) || has_opposite d p r)

-- the keys that are needed, if d is the default
abbrev pub needed_keys : Kind → Column → Column
needed_keys d [] = []
needed_keys d ((p, k) ∷ r) =
    if is_needed d p k r then (p, k) ∷ needed_keys d r else needed_keys d r

-- the plain reduction of a column: it removes the shadowed keys, and then those that are not needed
abbrev pub reduced : Column → Column
reduced c = needed_keys (default (unshadowed [] c)) (unshadowed [] c)

-- the column without a principal
abbrev pub without_principal : Principal → Column → Column
without_principal p [] = []
without_principal p ((q, j) ∷ c) =
    if principal_eq q p then without_principal p c else (q, j) ∷ without_principal p c
