-- The parts of the nine file mode bits, as numbers (POSIX.1e draft 17, section 23.1.3).
use Rattle.std.specs.Prelude.{ℕ, ◌+◌, ◌*◌, ◌/◌, ◌%◌}

-- the permissions of the owner in a mode
abbrev pub owner_part : ℕ → ℕ
owner_part mode = mode / 64

-- the permissions of the group in a mode
abbrev pub group_part : ℕ → ℕ
group_part mode = mode / 8 % 8

-- the permissions of others in a mode
abbrev pub others_part : ℕ → ℕ
others_part mode = mode % 8

-- the mode with these permissions of the owner, the group and others
abbrev pub mode_of_parts : ℕ → ℕ → ℕ → ℕ
mode_of_parts owner group others = 64 * owner + 8 * group + others
