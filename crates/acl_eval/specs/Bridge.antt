-- The NFSv4 list of a POSIX access ACL (this library's own: neither RFC 8881 nor acl(5) has one). What an entry decides
-- in the access check of acl(5), it decides here by an ACE that allows and one that denies.
use Rattle.std.specs.Prelude.{ℕ, ◌+◌, ◌-◌, ◌==◌, ◌^◌, Bool, true, false, ◌&&◌, List, [], ◌∷◌, ◌++◌, if◌then◌else◌}
use Rattle.std.specs.List.{filter, flat_map}
use Rattle.std.specs.Fmt.{decimal}
use Rattle.std.specs.FinMap as set
use Rattle.acl_perm.specs.Bits.{all_permissions, has_bit, identifier_group_alone}
use Rattle.acl_perm.specs.Profile.{full}
use Rattle.acl_perm.specs.declared.kind.Kind.{Kind}
use Rattle.acl_perm.specs.declared.kind.Kind.TheVariants.{Deny, Allow}
use Rattle.acl_posix.specs.Tag.{Tag, user_obj, user, group_obj, group, mask, other, is_named}
use Rattle.acl_posix.specs.Entries.{Entries}
use Rattle.acl_posix.specs.Mask.{effective_of}
use Rattle.acl_nfs4.specs.Ace.{Ace}
use Rattle.acl_nfs4.specs.Spelling.{IsAccepted}
use Rattle.acl_nfs4.specs.Who.{owner_name, group_name, everyone_name}
use Rattle.acl_eval.specs.Permissions.{read, write, execute, read_data, write_data, append_data, execute_right}
use Rattle.acl_eval.specs.declared.bridging.BridgeFault.{BridgeFault}
use Rattle.acl_eval.specs.declared.bridging.BridgeFault.TheVariants.{Limits, Memory}

-- the rights of permissions: read is READ_DATA, write is WRITE_DATA and APPEND_DATA, execute is EXECUTE
unfoldable pub image : ℕ → ℕ
image perm =
    (if has_bit perm read then 2 ^ read_data else 0)
    + (if has_bit perm write then 2 ^ write_data + 2 ^ append_data else 0)
    + (if has_bit perm execute then 2 ^ execute_right else 0)

-- the who of the ACEs of an entry: the name of an id is its decimal digits; MASK has no ACE
abbrev pub bridged_who : Tag → List ℕ
bridged_who user_obj = owner_name
bridged_who (user id) = decimal id
bridged_who group_obj = group_name
bridged_who (group id) = decimal id
bridged_who mask = []
bridged_who other = everyone_name

-- the tag is USER_OBJ or USER
abbrev pub is_user_tag : Tag → Bool
is_user_tag user_obj = true
is_user_tag (user id) = true
is_user_tag group_obj = false
is_user_tag (group id) = false
is_user_tag mask = false
is_user_tag other = false

-- the tag is GROUP_OBJ or GROUP
abbrev pub is_group_tag : Tag → Bool
is_group_tag user_obj = false
is_group_tag (user id) = false
is_group_tag group_obj = true
is_group_tag (group id) = true
is_group_tag mask = false
is_group_tag other = false

-- the tag is OTHER
abbrev pub is_other_tag : Tag → Bool
is_other_tag user_obj = false
is_other_tag (user id) = false
is_other_tag group_obj = false
is_other_tag (group id) = false
is_other_tag mask = false
is_other_tag other = true

-- the flags of the ACEs of an entry: IDENTIFIER_GROUP for named groups, and no flag for others
abbrev pub bridged_flags : Tag → ℕ
bridged_flags tag = if is_group_tag tag && is_named tag then identifier_group_alone else 0

-- the ACE of a tag with the rights of these permissions, or none if there are no permissions
unfoldable pub ace_of : Kind → Tag → ℕ → List Ace
ace_of kind tag perm = if perm == 0 then []
    else record { kind = kind; flags = bridged_flags tag; mask = image perm; who = bridged_who tag } ∷ []

-- what an entry allows: its effective permissions
abbrev pub allow_of : Entries → Tag × ℕ → List Ace
allow_of entries entry = ace_of Allow entry.0 (effective_of entries entry)

-- what an entry denies: those of read, write and execute that it does not allow
abbrev pub deny_of : Entries → Tag × ℕ → List Ace
deny_of entries entry = ace_of Deny entry.0 (all_permissions - effective_of entries entry)

-- what an entry allows, and then what it denies
abbrev pub decide_of : Entries → Tag × ℕ → List Ace
decide_of entries entry = allow_of entries entry ++ deny_of entries entry

-- the ACEs of some entries of a list, in its order
abbrev pub each : (Tag → Bool) → (Tag × ℕ → List Ace) → List (Tag × ℕ) → List Ace
each which aces entries = flat_map aces (filter (λ entry. which entry.0) entries)

-- over the entries in canonical order: what USER_OBJ and each USER allow and then deny, one after the other; what
-- GROUP_OBJ and each GROUP allow, and only after all of these what they deny, because one group that has a permission
-- is enough; and what OTHER allows
unfoldable pub bridge_list : Entries → List Ace
bridge_list entries =
    each is_user_tag (decide_of entries) (set.entries entries)
    ++ each is_group_tag (allow_of entries) (set.entries entries)
    ++ each is_group_tag (deny_of entries) (set.entries entries)
    ++ each is_other_tag (allow_of entries) (set.entries entries)

-- Limits if and only if the list is not accepted; memory is requested only if it is accepted
abbrev pub IsBridgeFault : List Ace → BridgeFault → Type 0
IsBridgeFault list Limits = IsAccepted full list → ⊥
IsBridgeFault list Memory = IsAccepted full list
