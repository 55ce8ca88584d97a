-- Keys of one right of a list of ACEs (RFC 8881, section 6.2.1): a principal and a kind. When two keys are the same,
-- when they conflict, and their order.
use Rattle.std.specs.Prelude.{Bool, false, not, true, ◌&&◌}
use Rattle.std.specs.Str.{bytes_eq}
use Rattle.std.specs.declared.cmp.Ordering.{Ordering}
use Rattle.acl_perm.specs.Principal.{Principal, everyone, group, group_named, owner, principal, user}
use Rattle.acl_perm.specs.Overlap.{may_overlap}
use Rattle.acl_perm.specs.Order.{Key, key_cmp}
use Rattle.acl_perm.specs.declared.key.Key.{Key as CodeKey}
use Rattle.acl_perm.specs.declared.kind.Kind.{Kind}
use Rattle.acl_perm.specs.declared.kind.Kind.TheVariants.{Allow, Deny}
use Rattle.acl_nfs4.specs.Ace.{Ace}
use Rattle.acl_nfs4.specs.Who.{principal_of}

-- a key of a column: its principal, and whether it denies or allows
abbrev pub ColumnKey : Type 0
ColumnKey = Principal × Kind

-- the key of an ACE in the column of each of its rights
abbrev pub ace_key : Ace → ColumnKey
ace_key a = (principal_of a, a.kind)

-- the same principal
abbrev pub principal_eq : Principal → Principal → Bool
principal_eq owner owner = true
principal_eq (user name) (user other) = bytes_eq name other
principal_eq group group = true
principal_eq (group_named name) (group_named other) = bytes_eq name other
principal_eq everyone everyone = true
principal_eq _ _ = false

-- the same kind
abbrev pub kind_eq : Kind → Kind → Bool
kind_eq Deny Deny = true
kind_eq Deny Allow = false
kind_eq Allow Deny = false
kind_eq Allow Allow = true

-- the kinds differ, and one requester can match both principals
abbrev pub conflicts : ColumnKey → ColumnKey → Bool
conflicts e f = may_overlap e.0 f.0 && not (kind_eq e.1 f.1)

-- the key as a record, as acl_perm orders it
abbrev pub key_record : ColumnKey → Key
key_record e = record { principal = e.0; kind = e.1 }

-- keys are ordered as in acl_perm
abbrev pub compare_keys : ColumnKey → ColumnKey → Ordering
compare_keys e f = key_cmp (key_record e) (key_record f)

-- the principal of a key of the code, and whether the key denies or allows
abbrev pub plain_key : CodeKey → ColumnKey
plain_key k = (principal k.principal, k.kind)
