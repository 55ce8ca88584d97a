-- The name of a SID (MS-DTYP, section 2.4.2.1): `S-1-`, the authority, and a hyphen and the decimal
-- digits of each sub-authority. An authority below 2 ^ 32 is in decimal digits, and any other is
-- `0x` and twelve hexadecimal digits.
use Rattle.std.specs.Prelude.{ℕ, ◌^◌, List, ◌∷◌, ◌++◌, codes, decimal, nat_lt, if◌then◌else◌}
use Rattle.std.specs.List.{flat_map}
use Rattle.byteorder.specs.Endian.{big_bytes}
use Rattle.hex.specs.Hex.{encode_lower}
use Rattle.acl_perm.specs.Ascii.{hyphen}
use Rattle.acl_nt.specs.Sid.{Sid}

-- the name of an authority
abbrev pub authority_name : ℕ → List ℕ
authority_name a =
    if nat_lt a (2 ^ 32) then decimal a else codes "0x" ++ encode_lower (big_bytes 6 a)

-- the name of a sub-authority
abbrev pub word_name : ℕ → List ℕ
word_name word = hyphen ∷ decimal word

-- the name of a SID
abbrev pub sid_name : Sid → List ℕ
sid_name s = codes "S-1-" ++ (authority_name s.authority ++ flat_map word_name s.words)
