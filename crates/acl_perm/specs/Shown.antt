-- How permissions and modes are shown: this library's own, in the letters and digits of acl(5) and chmod(1).
use Rattle.std.specs.Prelude.{ℕ, ◌==◌, List, [], ◌∷◌, ◌++◌, bit_and, decimal, if◌then◌else◌}
use Rattle.acl_perm.specs.Ascii.{hyphen, letter_r, letter_w, letter_x}
use Rattle.acl_perm.specs.Mode.{owner_part, group_part, others_part}

-- a letter, or - if the bit is absent
abbrev pub letter : ℕ → ℕ → ℕ → ℕ
letter perm bit shown = if bit_and perm bit == bit then shown else hyphen

-- three characters: r, w and x, each replaced by - if it is absent
abbrev pub perm_text : ℕ → List ℕ
perm_text perm = letter perm 4 letter_r ∷ letter perm 2 letter_w ∷ letter perm 1 letter_x ∷ []

-- three digits: of the owner, the group and others
abbrev pub mode_text : ℕ → List ℕ
mode_text mode = decimal (owner_part mode) ++ decimal (group_part mode) ++ decimal (others_part mode)
