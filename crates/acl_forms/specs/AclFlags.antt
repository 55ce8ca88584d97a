-- The flags of a whole list (RFC 8881, section 6.2.2, and those of OpenZFS).
use Rattle.std.specs.Prelude.{◌≡◌, ℕ, bit_and}

-- ACL4_AUTO_INHERIT, ACL4_PROTECTED and ACL4_DEFAULTED (RFC 8881, section 6.2.2), and ACL_IS_TRIVIAL and ACL_IS_DIR of
-- OpenZFS together
abbrev pub all_acl_flags : ℕ
all_acl_flags = 0x00030007

-- a set of these flags
abbrev pub IsAclFlags : ℕ → Type 0
IsAclFlags n = bit_and n all_acl_flags ≡ n
