-- The names that the code notes while it exchanges names: this library's own. No public clause cites it.
use Rattle.std.specs.Prelude.{◌≡◌, ◌&&◌, ⊤, ℕ, Bool, false, List, not, Option, Some, if◌then◌else◌, option_map}
use Rattle.std.specs.BTreeMap.{get_by}
use Rattle.std.specs.Cmp.Lexicographic.{slice_cmp}
use Rattle.std.specs.Option.{option_map_or}
use Rattle.std.specs.Ordering.{nat_cmp}
use Rattle.std.specs.Str.{bytes_eq}
use Rattle.acl_nfs4.specs.Ace.{Ace}
use Rattle.acl_nfs4.specs.Renamed.{bad_row, first_merge, NameRow, same_sort}
use Rattle.acl_nfs4.specs.declared.list.renaming.NameMap.{NameMap}
use Rattle.acl_nfs4.specs.declared.list.renaming.RenameFault.{RenameFault}
use Rattle.acl_nfs4.specs.declared.list.renaming.RenameFault.TheVariants as fault

-- the name that a map has for a name of a group or of a user
abbrev pub name_for : NameMap → Bool → List ℕ → Option (List ℕ)
name_for m is_group name = option_map (λ v. v.now)
    (get_by (λ k. slice_cmp nat_cmp name k.now) (if is_group then m.groups else m.users))

-- the same names, and one more
abbrev pub with_new_name : (Bool → List ℕ → Option (List ℕ)) → Bool → List ℕ → List ℕ → Bool → List ℕ → Option (List ℕ)
with_new_name names is_group name value g q =
    if same_sort is_group g && bytes_eq name q then Some value else names g q

-- the map has another name for this name
abbrev pub has_other : (Bool → List ℕ → Option (List ℕ)) → Bool → List ℕ → List ℕ → Bool
has_other names is_group name value = option_map_or (λ w. not (bytes_eq w value)) (names is_group name) false

-- why a table makes no map
abbrev pub IsRowFault : List NameRow → RenameFault → Type 0
IsRowFault table (fault.Row place) = bad_row table ≡ Some place
IsRowFault table (fault.Merged place) = ⊥
IsRowFault table fault.Memory = ⊤

-- why names become one
abbrev pub IsMergeFault : (Bool → List ℕ → Option (List ℕ)) → List Ace → RenameFault → Type 0
IsMergeFault names list (fault.Row place) = ⊥
IsMergeFault names list (fault.Merged place) = first_merge names list ≡ Some place
IsMergeFault names list fault.Memory = ⊤
