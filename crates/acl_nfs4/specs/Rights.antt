-- The names of the access rights (RFC 8881, section 6.2.1.3.1, without `ACE4_`), and the field of the text form that
-- names a mask.
use Rattle.std.specs.Prelude.{ℕ, List, Option}
use Rattle.acl_nfs4.specs.BitNames.{SpellsSet, set_named}
-- the table of the rights: a bit of the mask, its name, and its second name if it has another name for directories
pub use Rattle.acl_perm.specs.Names.{rights}

-- a field that names a mask: `-`, or names of rights with `|` between them, at least one
abbrev pub SpellsMask : List ℕ → ℕ → Type 0
SpellsMask field mask = SpellsSet rights field mask

-- the mask that a field names; `SpellsMask` says which, and this computes it
abbrev pub mask_named : List ℕ → Option ℕ
mask_named field = set_named rights field
