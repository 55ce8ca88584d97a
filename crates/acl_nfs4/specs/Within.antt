-- Sets within sets, and the profiles that a list may be judged by (this library's own; the sets are those of RFC 8881,
-- sections 6.2.1.3.1 and 6.2.1.4).
use Rattle.std.specs.Prelude.{◌≡◌, ◌==◌, ℕ, Bool, bit_and}
use Rattle.acl_perm.specs.Bits.{all_flags, all_rights}
use Rattle.acl_perm.specs.Profile.{Profile}

-- the bits of a number are bits of the set
abbrev pub IsWithin : ℕ → ℕ → Type 0
IsWithin set n = bit_and n set ≡ n

-- whether the bits of a number are bits of the set
abbrev pub is_within : ℕ → ℕ → Bool
is_within set n = bit_and n set == n

-- the masks of the profile are rights of the standard, and its flags are flags of the standard
pub record IsProfile (p : Profile) : Type 0 where
  pub masks : IsWithin all_rights p.masks
  pub flags : IsWithin all_flags p.flags
