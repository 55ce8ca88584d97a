-- Which access rights and flags the ACEs of a list may have (this library's own; RFC 8881, sections 6.2.1.3.1 and
-- 6.2.1.4, names the rights and the flags).
use Rattle.std.specs.Prelude.{ℕ}
use Rattle.acl_perm.specs.Bits.{all_flags, all_rights}
use Rattle.acl_perm.specs.declared.profile.Profile.{Profile as ProfileOfCode}

-- a set of rights and a set of flags
pub record Profile : Type 0 where
  pub masks : ℕ
  pub flags : ℕ

-- the sets that a profile of the code holds
abbrev pub profile_of : ProfileOfCode → Profile
profile_of p = record { masks = p.masks.bits; flags = p.flags.bits }

-- all sixteen rights and all eight flags
abbrev pub full : Profile
full = record { masks = all_rights; flags = all_flags }

-- without WRITE_RETENTION, WRITE_RETENTION_HOLD and INHERITED
abbrev pub narrow : Profile
narrow = record { masks = 0x001f01ff; flags = 0x7f }
