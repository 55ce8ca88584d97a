-- What the fields of an entry spell (acl(5), "LONG TEXT FORM" and "SHORT TEXT FORM"). It is this library's own that
-- permissions may be in any order, that ids are decimal, and which numbers are no ids.
use Rattle.std.specs.Prelude.{ℕ, ◌+◌, ◌*◌, ◌==◌, ◌||◌, ◌&&◌, Bool, List, Option, Some, None, codes, count_by, nat_le, if◌then◌else◌}
use Rattle.std.specs.List.{list_all}
use Rattle.std.specs.Str.{bytes_eq}
use Rattle.std.specs.Str.Parse.{digits_value}
use Rattle.std.specs.FinMap as fin
use Rattle.acl_perm.specs.Ascii.{hyphen, letter_r, letter_w, letter_x}
use Rattle.acl_posix.specs.declared.field.TagWord.{TagWord}
use Rattle.acl_posix.specs.declared.field.TagWord.TheVariants.{User, Group, Mask, Other}
use Rattle.acl_posix.specs.Id.{greatest_id}
use Rattle.acl_posix.specs.Names.{Ids, is_number}

-- r, w, x or -
abbrev pub is_permission : ℕ → Bool
is_permission b = (b == letter_r) || (b == letter_w) || (b == letter_x) || (b == hyphen)

-- how often a letter occurs
abbrev pub occurrences : ℕ → List ℕ → ℕ
occurrences letter bytes = count_by (λ b. b == letter) bytes

-- the permissions that a field spells: r, w, x and - in any order, and each letter at most once
unfoldable pub permissions_of : List ℕ → Option ℕ
permissions_of bytes =
    if list_all is_permission bytes && nat_le (occurrences letter_r bytes) 1 && nat_le (occurrences letter_w bytes) 1
    && nat_le (occurrences letter_x bytes) 1
    then Some (4 * occurrences letter_r bytes + 2 * occurrences letter_w bytes + occurrences letter_x bytes)
    else None

-- a word in full or its first letter
abbrev pub is_word_or_letter : List ℕ → List ℕ → List ℕ → Bool
is_word_or_letter bytes long short = bytes_eq bytes long || bytes_eq bytes short

-- the tag word that a field spells
unfoldable pub word_of : List ℕ → Option TagWord
word_of bytes =
    if is_word_or_letter bytes (codes "user") (codes "u") then Some User
    else (if is_word_or_letter bytes (codes "group") (codes "g") then Some Group
    else (if is_word_or_letter bytes (codes "mask") (codes "m") then Some Mask
    else (if is_word_or_letter bytes (codes "other") (codes "o") then Some Other
    else None)))

-- the field that marks an entry of the default ACL
abbrev pub is_default : List ℕ → Bool
is_default bytes = is_word_or_letter bytes (codes "default") (codes "d")

-- the id that digits spell: at most the greatest
unfoldable pub id_of : List ℕ → Option ℕ
id_of digits = if nat_le (digits_value 10 digits) greatest_id then Some (digits_value 10 digits) else None

-- the id that a qualifier spells: in digits, or as a name of this table
abbrev pub id_in : Ids → List ℕ → Option ℕ
id_in ids bytes = if is_number bytes then id_of bytes else fin.get ids bytes
