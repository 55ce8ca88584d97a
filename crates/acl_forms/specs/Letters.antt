-- The letters that stand for flags and rights in the texts of nfs4-acl-tools (nfs4_acl(5), and the sources of version
-- 0.4.2 where the page says nothing) and in those of FreeBSD, ZFS and archives (setfacl(1) of FreeBSD, "NFSv4 ACL
-- ENTRIES", and archive_entry_acl(3) of libarchive), and what a field of letters stands for.
use Rattle.std.specs.Prelude.{◌==◌, ℕ, List, [], ◌∷◌, Option, None, Some, Result, Ok, Err, bit_or, filter_map, find, fold, map, if◌then◌else◌}
use Rattle.std.specs.List.{enumerate_from}
use Rattle.std.specs.Result.{result_err, result_ok}
use Rattle.acl_forms.specs.ReadFaults.{read_fault_at}
use Rattle.acl_forms.specs.declared.fault.ReadFault.{ReadFault}
use Rattle.acl_forms.specs.declared.fault.ReadReason.{ReadReason}
use Rattle.acl_forms.specs.declared.fault.ReadReason.TheVariants.{NotDirectory}
use Rattle.acl_forms.specs.declared.letters.Letter.{Letter}
use Rattle.acl_forms.specs.declared.object.ObjectKind.{ObjectKind}
use Rattle.acl_forms.specs.declared.object.ObjectKind.TheVariants.{File, Directory}

-- a letter that stands for the same bits on files and on directories
abbrev pub both : ℕ → ℕ → Letter
both letter bits = record { letter = letter; bits = bits; on_files = bits }

-- a letter that has no meaning on files
abbrev pub directory : ℕ → ℕ → Letter
directory letter bits = record { letter = letter; bits = bits; on_files = 0 }

-- the letters of flags, in the order in which they are printed
abbrev pub flag_letters : List Letter
flag_letters =
    directory 0x66 0x01  -- f, FILE_INHERIT
    ∷ directory 0x64 0x02  -- d, DIRECTORY_INHERIT
    ∷ directory 0x6e 0x04  -- n, NO_PROPAGATE_INHERIT
    ∷ directory 0x69 0x08  -- i, INHERIT_ONLY
    ∷ both 0x53 0x10  -- S, SUCCESSFUL_ACCESS
    ∷ both 0x46 0x20  -- F, FAILED_ACCESS
    ∷ both 0x67 0x40  -- g, IDENTIFIER_GROUP
    ∷ both 0x49 0x80  -- I, INHERITED (from version 0.4 on)
    ∷ []

-- the letters of single rights, in the order in which they are printed
abbrev pub single_letters : List Letter → List Letter
single_letters more =
    both 0x72 0x1  -- r, READ_DATA
    ∷ both 0x77 0x2  -- w, WRITE_DATA
    ∷ both 0x61 0x4  -- a, APPEND_DATA
    ∷ directory 0x44 0x40  -- D, DELETE_CHILD
    ∷ both 0x64 0x10000  -- d, DELETE
    ∷ both 0x78 0x20  -- x, EXECUTE
    ∷ both 0x74 0x80  -- t, READ_ATTRIBUTES
    ∷ both 0x54 0x100  -- T, WRITE_ATTRIBUTES
    ∷ both 0x6e 0x8  -- n, READ_NAMED_ATTRS
    ∷ both 0x4e 0x10  -- N, WRITE_NAMED_ATTRS
    ∷ both 0x63 0x20000  -- c, READ_ACL
    ∷ both 0x43 0x40000  -- C, WRITE_ACL
    ∷ both 0x6f 0x80000  -- o, WRITE_OWNER
    ∷ both 0x79 0x100000  -- y, SYNCHRONIZE
    ∷ more

-- the letters of rights: those of single rights, and the three that are only read: R is rntcy, W is watTNcCy and on
-- directories D too, X is xtcy
abbrev pub right_letters : List Letter
right_letters = single_letters (both 0x52 0x120089
    ∷ record { letter = 0x57; bits = 0x1601d6; on_files = 0x160196 }
    ∷ both 0x58 0x1200a0 ∷ [])

-- the letters of flags on FreeBSD, in ZFS and in archives, in the order in which they are printed
abbrev pub nfs_flag_letters : List Letter → List Letter
nfs_flag_letters more =
    both 0x66 0x01  -- f, FILE_INHERIT
    ∷ both 0x64 0x02  -- d, DIRECTORY_INHERIT
    ∷ both 0x69 0x08  -- i, INHERIT_ONLY
    ∷ both 0x6e 0x04  -- n, NO_PROPAGATE_INHERIT
    ∷ both 0x53 0x10  -- S, SUCCESSFUL_ACCESS
    ∷ both 0x46 0x20  -- F, FAILED_ACCESS
    ∷ both 0x49 0x80  -- I, INHERITED
    ∷ more

-- the letters of rights there, in the order in which they are printed
abbrev pub nfs_right_letters : List Letter → List Letter
nfs_right_letters more =
    both 0x72 0x1  -- r, READ_DATA
    ∷ both 0x77 0x2  -- w, WRITE_DATA
    ∷ both 0x78 0x20  -- x, EXECUTE
    ∷ both 0x70 0x4  -- p, APPEND_DATA
    ∷ both 0x64 0x10000  -- d, DELETE
    ∷ both 0x44 0x40  -- D, DELETE_CHILD
    ∷ both 0x61 0x80  -- a, READ_ATTRIBUTES
    ∷ both 0x41 0x100  -- A, WRITE_ATTRIBUTES
    ∷ both 0x52 0x8  -- R, READ_NAMED_ATTRS
    ∷ both 0x57 0x10  -- W, WRITE_NAMED_ATTRS
    ∷ both 0x63 0x20000  -- c, READ_ACL
    ∷ both 0x43 0x40000  -- C, WRITE_ACL
    ∷ both 0x6f 0x80000  -- o, WRITE_OWNER
    ∷ both 0x73 0x100000  -- s, SYNCHRONIZE
    ∷ more

-- `-`, which is in the place of a letter in the full style, and stands for no bit
abbrev pub no_letter : List Letter
no_letter = both 0x2d 0 ∷ []

-- the bits for which a letter at a place stands, by the row that the table has for it
abbrev pub row_bits : ObjectKind → ReadReason → ℕ → Option Letter → Result ℕ ReadFault
row_bits object wrong at None = Err (read_fault_at at wrong)
row_bits Directory wrong at (Some row) = Ok row.bits
row_bits File wrong at (Some row) = if row.on_files == 0 then Err (read_fault_at at NotDirectory) else Ok row.on_files

-- the bits for which a letter at a place stands, or its fault: it is not in the table, or has no meaning on files
abbrev pub letter_bits : List Letter → ObjectKind → ReadReason → ℕ → ℕ → Result ℕ ReadFault
letter_bits table object wrong at letter = row_bits object wrong at (find (λ row. row.letter == letter) table)

-- the bits for which each letter of a field stands, or its fault, if the first letter is at this place
abbrev pub bits_of_each : List Letter → ObjectKind → ReadReason → ℕ → List ℕ → List (Result ℕ ReadFault)
bits_of_each table object wrong at letters =
    map (λ placed. letter_bits table object wrong placed.0 placed.1) (enumerate_from at letters)

-- a set, unless there is a fault: then the first one
abbrev pub unless_faults : List ReadFault → ℕ → Result ℕ ReadFault
unless_faults [] set = Ok set
unless_faults (fault ∷ faults) set = Err fault

-- the union of the bits for which letters stand, or the first fault
abbrev pub union_of : List (Result ℕ ReadFault) → Result ℕ ReadFault
union_of each = unless_faults (filter_map result_err each) (fold bit_or 0 (filter_map result_ok each))

-- the set for which the letters of a field stand, or the first fault, if the first letter is at this place
unfoldable pub set_of_letters : List Letter → ObjectKind → ReadReason → ℕ → List ℕ → Result ℕ ReadFault
set_of_letters table object wrong at letters = union_of (bits_of_each table object wrong at letters)
