-- Bytes of ASCII by their names (RFC 20, sections 4.1 and 4.2).
use Rattle.std.specs.Prelude.{ℕ}

-- a tab (HT)
abbrev pub tab : ℕ
tab = 0x09

-- a line feed (LF)
abbrev pub line_feed : ℕ
line_feed = 0x0a

-- a space (SP), the first byte that is no control byte
abbrev pub space : ℕ
space = 0x20

-- `#`
abbrev pub comment_mark : ℕ
comment_mark = 0x23

-- `,`
abbrev pub comma : ℕ
comma = 0x2c

-- `-`
abbrev pub hyphen : ℕ
hyphen = 0x2d

-- `0`
abbrev pub zero_digit : ℕ
zero_digit = 0x30

-- `:`
abbrev pub colon : ℕ
colon = 0x3a

-- `@`
abbrev pub at_sign : ℕ
at_sign = 0x40

-- `r`
abbrev pub letter_r : ℕ
letter_r = 0x72

-- `w`
abbrev pub letter_w : ℕ
letter_w = 0x77

-- `x`
abbrev pub letter_x : ℕ
letter_x = 0x78

-- `|`
abbrev pub bar : ℕ
bar = 0x7c

-- the control byte DEL
abbrev pub delete : ℕ
delete = 0x7f
