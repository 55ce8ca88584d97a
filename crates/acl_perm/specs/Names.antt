-- The names of the access rights, and of the two kinds of an ACE (RFC 8881, sections 6.2.1.3.1 and 6.2.1.1, without
-- `ACE4_`).
use Rattle.std.specs.Prelude.{ℕ, ◌==◌, ◌^◌, List, [], ◌∷◌, Option, Some, None, codes, find, option_map}
use Rattle.acl_perm.specs.declared.kind.Kind.{Kind}
use Rattle.acl_perm.specs.declared.kind.Kind.TheVariants.{Deny, Allow}

-- a row of a table: a bit, its name, and its second name if it has two
pub record BitName : Type 0 where
  pub bit : ℕ
  pub name : List ℕ
  pub second : Option (List ℕ)

-- a row of one name
abbrev pub one_name : ℕ → List ℕ → BitName
one_name bit name = record { bit = bit; name = name; second = None }

-- a row of two names
abbrev pub two_names : ℕ → List ℕ → List ℕ → BitName
two_names bit name second = record { bit = bit; name = name; second = Some second }

-- the first name of the row that has this bit
abbrev pub first_name : List BitName → ℕ → Option (List ℕ)
first_name table bit = option_map (λ row. row.name) (find (λ row. row.bit == bit) table)

-- the table of the rights: a bit of the mask, its name, and its second name if it has another name for directories
abbrev pub rights : List BitName
rights =
    two_names 0x00000001 (codes "READ_DATA") (codes "LIST_DIRECTORY") ∷
    two_names 0x00000002 (codes "WRITE_DATA") (codes "ADD_FILE") ∷
    two_names 0x00000004 (codes "APPEND_DATA") (codes "ADD_SUBDIRECTORY") ∷
    one_name 0x00000008 (codes "READ_NAMED_ATTRS") ∷
    one_name 0x00000010 (codes "WRITE_NAMED_ATTRS") ∷
    one_name 0x00000020 (codes "EXECUTE") ∷
    one_name 0x00000040 (codes "DELETE_CHILD") ∷
    one_name 0x00000080 (codes "READ_ATTRIBUTES") ∷
    one_name 0x00000100 (codes "WRITE_ATTRIBUTES") ∷
    one_name 0x00000200 (codes "WRITE_RETENTION") ∷
    one_name 0x00000400 (codes "WRITE_RETENTION_HOLD") ∷
    one_name 0x00010000 (codes "DELETE") ∷
    one_name 0x00020000 (codes "READ_ACL") ∷
    one_name 0x00040000 (codes "WRITE_ACL") ∷
    one_name 0x00080000 (codes "WRITE_OWNER") ∷
    one_name 0x00100000 (codes "SYNCHRONIZE") ∷ []

-- the first name of the right of this bit, or none if the bit is no right
abbrev pub right_name : ℕ → Option (List ℕ)
right_name bit = first_name rights (2 ^ bit)

-- the word of a kind
abbrev pub kind_name : Kind → List ℕ
kind_name Allow = codes "ALLOW"
kind_name Deny = codes "DENY"
