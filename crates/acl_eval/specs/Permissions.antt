-- The bits of read, write and execute in a set of permissions (POSIX.1e draft 17, section 23.1.2), and the bits of
-- their rights in a mask (RFC 8881, section 6.2.1.3.1).
use Rattle.std.specs.Prelude.{ℕ}

-- the place of the bit of read, whose number is 4
abbrev pub read : ℕ
read = 2

-- the place of the bit of write, whose number is 2
abbrev pub write : ℕ
write = 1

-- the place of the bit of execute, whose number is 1
abbrev pub execute : ℕ
execute = 0

-- the place of the bit of READ_DATA, whose number is 0x1
abbrev pub read_data : ℕ
read_data = 0

-- the place of the bit of WRITE_DATA, whose number is 0x2
abbrev pub write_data : ℕ
write_data = 1

-- the place of the bit of APPEND_DATA, whose number is 0x4
abbrev pub append_data : ℕ
append_data = 2

-- the place of the bit of EXECUTE, whose number is 0x20
abbrev pub execute_right : ℕ
execute_right = 5
