-- The list after a change of the mode (RFC 8881, section 6.4.1.1, "Setting the mode and not ACL"). The section requires
-- that the list then has the new mode, by section 6.3.2, and recommends that no name is granted a right of read, write
-- or execute that the bits of the group lack. How a list is changed for this is this library's own.
use Rattle.std.specs.Prelude.{ℕ, ◌-◌, ◌==◌, ◌||◌, Bool, false, not, if◌then◌else◌, List, [], ◌∷◌, ◌++◌, bit_and, bit_or, filter, Option, None, Some}
use Rattle.std.specs.List.{flat_map}
use Rattle.acl_perm.specs.Bits.{all_permissions, has_bit}
use Rattle.acl_perm.specs.Mode.{group_part, others_part, owner_part}
use Rattle.acl_perm.specs.Principal.{Principal, owner, group}
use Rattle.acl_perm.specs.declared.kind.Kind.{Kind}
use Rattle.acl_perm.specs.declared.kind.Kind.TheVariants.{Allow, Deny}
use Rattle.acl_nfs4.specs.Ace.{Ace}
use Rattle.acl_nfs4.specs.Who.{everyone_name, group_name, owner_name, principal_of}
use Rattle.acl_eval.specs.Bridge.{image}
use Rattle.acl_eval.specs.Column.{column, first_kind, takes_part}
use Rattle.acl_eval.specs.Grant.{is_allow}
use Rattle.acl_eval.specs.Inheritance.{directory_inherit, file_inherit, inherit_only_alone, with_flags}
use Rattle.acl_eval.specs.Scan.{without}
use Rattle.acl_eval.specs.Unnamed.{is_unnamed}

-- ---- the rights

-- the rights that the nine bits of a mode are about: READ_DATA (0x1), WRITE_DATA (0x2), APPEND_DATA (0x4) and EXECUTE
-- (0x20)
abbrev pub mode_rights : ℕ
mode_rights = 0x27

-- of these rights, those that the group does not have under a mode
abbrev pub beyond_group : ℕ → ℕ
beyond_group mode = image (all_permissions - group_part mode)

-- of these rights, those that others have under a mode and the group does not
abbrev pub only_of_others : ℕ → ℕ
only_of_others mode = image (without (others_part mode) (group_part mode))

-- The rights of its mask that an ACE loses: an ACE of `OWNER@`, `GROUP@` or `EVERYONE@` all rights of a mode, and an
-- ALLOW of a name those that the group does not have. A DENY of a name loses none.
abbrev pub lost_rights : ℕ → Ace → ℕ
lost_rights mode a = bit_and a.mask (if is_unnamed (principal_of a) then mode_rights
    else (if is_allow a.kind then beyond_group mode else 0))

-- The rights of its mask that are denied to the name of an ALLOW from now on, so that the name does not get them as one
-- of the others.
abbrev pub denied_rights : ℕ → Ace → ℕ
denied_rights mode a = bit_and a.mask (if is_unnamed (principal_of a) then 0 else only_of_others mode)

-- ---- what the list has for one ACE

-- all flags except FILE_INHERIT (0x01), DIRECTORY_INHERIT (0x02), NO_PROPAGATE_INHERIT (0x04) and INHERIT_ONLY (0x08)
abbrev pub not_passed_on : ℕ
not_passed_on = 0xf0

-- an ACE with another kind and another mask, which is for this object alone
abbrev pub for_this_object : Ace → Kind → ℕ → Ace
for_this_object a kind mask =
    record { kind = kind; flags = bit_and a.flags not_passed_on; mask = mask; who = a.who }

-- the ACE as it was, for new objects alone, if new objects inherit it
abbrev pub for_new_objects : Ace → List Ace
for_new_objects a = if has_bit a.flags file_inherit || has_bit a.flags directory_inherit
    then with_flags a (bit_or a.flags inherit_only_alone) ∷ []
    else []

-- an ACE, or none if its mask is empty
abbrev pub unless_empty : Ace → List Ace
unless_empty a = if a.mask == 0 then [] else a ∷ []

-- What the list has in place of an ACE. An ACE with INHERIT_ONLY, and one that loses no right, stay as they are.
-- Otherwise new objects inherit the ACE as it was, and on this object it denies and keeps what remains.
abbrev pub after_chmod : ℕ → Ace → List Ace
after_chmod mode a = if not (takes_part a) || (lost_rights mode a == 0) then a ∷ []
    else for_new_objects a
    ++ (unless_empty (for_this_object a Deny (denied_rights mode a))
    ++ unless_empty (for_this_object a a.kind (without a.mask (lost_rights mode a))))

-- ---- the whole list

-- an ACE without flags that gives or denies these permissions, or none if there are no permissions
abbrev pub class_ace : Kind → List ℕ → ℕ → List Ace
class_ace kind who perm = unless_empty (record { kind = kind; flags = 0; mask = image perm; who = who })

-- the first ACEs: what the mode allows and denies the owner
abbrev pub owner_aces : ℕ → List Ace
owner_aces mode = class_ace Allow owner_name (owner_part mode)
    ++ class_ace Deny owner_name (all_permissions - owner_part mode)

-- the last ACEs: what the mode allows and denies the group, and what it allows others
abbrev pub other_aces : ℕ → List Ace
other_aces mode = class_ace Allow group_name (group_part mode)
    ++ (class_ace Deny group_name (all_permissions - group_part mode)
    ++ class_ace Allow everyone_name (others_part mode))

-- the list after the change: the ACEs of the owner, those of the old list in their order, and those of the group and
-- of others
abbrev pub chmod_list : ℕ → List Ace → List Ace
chmod_list mode list = owner_aces mode ++ (flat_map (after_chmod mode) list ++ other_aces mode)

-- ---- what the list then grants

-- the ACEs of a list that name a user or a group by its name
abbrev pub named_aces : List Ace → List Ace
named_aces list = filter (λ a. not (is_unnamed (principal_of a))) list

-- what is granted by the kind of the first ACE of a name that decides the right: nothing by a DENY, what the group has
-- by an ALLOW, and the given answer without such an ACE
abbrev pub by_name_first : Option Kind → Bool → Bool → Bool
by_name_first (Some Deny) of_group answer = false
by_name_first (Some Allow) of_group answer = of_group
by_name_first None of_group answer = answer

-- Whether a right of the mode is granted after the change, where the test says which principals match: to the owner by
-- the bits of the owner; to anybody else by the first ACE of a name that has the right, within the bits of the group;
-- and without such an ACE by the bits of the group or of others.
abbrev pub is_granted_after : (Principal → Bool) → ℕ → List Ace → ℕ → Bool
is_granted_after test mode list bit = if test owner then has_bit (image (owner_part mode)) bit
    else by_name_first (first_kind test (column (named_aces list) bit)) (has_bit (image (group_part mode)) bit)
    (if test group then has_bit (image (group_part mode)) bit else has_bit (image (others_part mode)) bit)
