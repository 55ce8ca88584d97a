-- The names of the flags in the text form, which is this library's own: `FILE` is FILE_INHERIT_ACE of RFC 8881, section
-- 6.2.1.4.1, and so on.
use Rattle.std.specs.Prelude.{ℕ, List, [], ◌∷◌, codes}
use Rattle.acl_nfs4.specs.BitNames.{BitName, one_name, SpellsSet}

-- the table, in the order of the bits: FILE_INHERIT, DIRECTORY_INHERIT, NO_PROPAGATE_INHERIT, INHERIT_ONLY,
-- SUCCESSFUL_ACCESS, FAILED_ACCESS, IDENTIFIER_GROUP and INHERITED
abbrev pub flag_names : List BitName
flag_names =
    one_name 0x01 (codes "FILE") ∷
    one_name 0x02 (codes "DIR") ∷
    one_name 0x04 (codes "NOPROP") ∷
    one_name 0x08 (codes "INHERITONLY") ∷
    one_name 0x10 (codes "SUCCESS") ∷
    one_name 0x20 (codes "FAILED") ∷
    one_name 0x40 (codes "GROUP") ∷
    one_name 0x80 (codes "INHERITED") ∷ []

-- the flag INHERITED alone
abbrev pub inherited_alone : ℕ
inherited_alone = 0x80

-- a field that names a set of flags: `-`, or names of flags with `|` between them, at least one
abbrev pub SpellsFlags : List ℕ → ℕ → Type 0
SpellsFlags field flags = SpellsSet flag_names field flags
