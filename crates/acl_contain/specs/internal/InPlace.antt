-- A list at one of five paths of creations, with each ACE at the place that it has in the source (this library's own).
use Rattle.std.specs.Prelude.{ℕ, Bool, not, ◌&&◌, bit_and, if◌then◌else◌, List, [], ◌∷◌, map}
use Rattle.acl_perm.specs.Bits.{has_bit, inherit_only}
use Rattle.acl_nfs4.specs.Ace.{Ace}
use Rattle.acl_eval.specs.Inheritance.{directory_inherit, file_inherit, no_propagate_inherit}
use Rattle.acl_eval.specs.declared.inherit.ChildKind.TheVariants.{Directory, File}
use Rattle.acl_normal.specs.Paths.{Path, below, here}
use Rattle.acl_contain.specs.declared.restricting.short_path.ShortPath.{ShortPath}
use Rattle.acl_contain.specs.declared.restricting.short_path.ShortPath.TheVariants.{DirectoryInDirectory, FileInDirectory, NewDirectory, NewFile, Object}

-- the path
abbrev pub path_of : ShortPath → Path
path_of Object = here
path_of NewFile = below 0 File
path_of NewDirectory = below 0 Directory
path_of FileInDirectory = below 1 File
path_of DirectoryInDirectory = below 1 Directory

-- an ACE with these flags takes part at the path
abbrev pub takes_part_at : ShortPath → ℕ → Bool
takes_part_at Object flags = not (has_bit flags inherit_only)
takes_part_at NewFile flags = has_bit flags file_inherit
takes_part_at NewDirectory flags = has_bit flags directory_inherit
takes_part_at FileInDirectory flags = has_bit flags file_inherit && not (has_bit flags no_propagate_inherit)
takes_part_at DirectoryInDirectory flags = has_bit flags directory_inherit && not (has_bit flags no_propagate_inherit)

-- all flags except INHERIT_ONLY
abbrev pub all_but_inherit_only : ℕ
all_but_inherit_only = 0xf7

-- the ACE without INHERIT_ONLY, and without rights if it takes no part at the path
abbrev pub in_place : ShortPath → Ace → Ace
in_place path a = record a {
  flags = bit_and a.flags all_but_inherit_only;
  mask = if takes_part_at path a.flags then a.mask else 0;
}

-- the list of these ACEs
abbrev pub all_in_place : ShortPath → List Ace → List Ace
all_in_place path = map (in_place path)

-- the ACE with the rights that it has in another one, if it takes part at the path
abbrev pub put_back : ShortPath → Ace → Ace → Ace
put_back path a cut = record a { mask = if takes_part_at path a.flags then cut.mask else a.mask }

-- the list of these ACEs
abbrev pub all_put_back : ShortPath → List Ace → List Ace → List Ace
all_put_back path [] left = []
all_put_back path (a ∷ list) [] = []
all_put_back path (a ∷ list) (cut ∷ left) = put_back path a cut ∷ all_put_back path list left
