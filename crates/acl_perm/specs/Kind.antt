-- The two kinds of an ACE that deny and allow (RFC 8881, section 6.2.1.1).
use Rattle.std.specs.Prelude.{ℕ, Bool, true, false}
use Rattle.acl_perm.specs.declared.kind.Kind.{Kind}
use Rattle.acl_perm.specs.declared.kind.Kind.TheVariants.{Deny, Allow}

-- the other kind
abbrev pub other_kind : Kind → Kind
other_kind Deny = Allow
other_kind Allow = Deny

-- the kind is ALLOW
abbrev pub is_allow : Kind → Bool
is_allow Deny = false
is_allow Allow = true

-- the number of a kind in XDR: that of ACE4_ACCESS_ALLOWED_ACE_TYPE, or of ACE4_ACCESS_DENIED_ACE_TYPE
abbrev pub kind_number : Kind → ℕ
kind_number Allow = 0
kind_number Deny = 1
