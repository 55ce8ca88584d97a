-- What a new object gets from the list of its parent: this library's own table, in the manner of RFC 8881, section 6.4.
-- The flags are those of its section 6.2.1.4.1.
use Rattle.std.specs.Prelude.{ℕ, bit_and, bit_or, if◌then◌else◌, List, map, filter_map, Option, None, Some, option_map}
use Rattle.acl_perm.specs.Bits.{has_bit}
use Rattle.acl_nfs4.specs.Ace.{Ace}
use Rattle.acl_nfs4.specs.FlagNames.{inherited_alone}
use Rattle.acl_eval.specs.declared.inherit.ChildKind.{ChildKind}
use Rattle.acl_eval.specs.declared.inherit.ChildKind.TheVariants.{File, Directory}

-- the bit of the flag FILE_INHERIT
abbrev pub file_inherit : ℕ
file_inherit = 0

-- the bit of the flag DIRECTORY_INHERIT
abbrev pub directory_inherit : ℕ
directory_inherit = 1

-- the bit of the flag NO_PROPAGATE_INHERIT
abbrev pub no_propagate_inherit : ℕ
no_propagate_inherit = 2

-- the bit of the flag INHERITED
abbrev pub inherited : ℕ
inherited = 7

-- the flags that are not about inheritance: SUCCESSFUL_ACCESS (0x10), FAILED_ACCESS (0x20) and IDENTIFIER_GROUP (0x40)
abbrev pub kept_at_the_end : ℕ
kept_at_the_end = 0x70

-- the flags that are not about inheritance, and FILE_INHERIT (0x01), DIRECTORY_INHERIT (0x02) and NO_PROPAGATE_INHERIT
-- (0x04): all flags except INHERIT_ONLY and INHERITED
abbrev pub kept_on_the_way : ℕ
kept_on_the_way = 0x77

-- the flag INHERIT_ONLY alone
abbrev pub inherit_only_alone : ℕ
inherit_only_alone = 0x08

-- the flags of an ACE in a child that does not pass it on: those that are not about inheritance
abbrev pub ends : ℕ → ℕ
ends flags = bit_and flags kept_at_the_end

-- the flags of an ACE that takes part in a child which passes it on: without INHERIT_ONLY and INHERITED
abbrev pub goes_on : ℕ → ℕ
goes_on flags = bit_and flags kept_on_the_way

-- the flags of an ACE that takes no part in a child which passes it on: the same, with INHERIT_ONLY
abbrev pub waiting_flags : ℕ → ℕ
waiting_flags flags = bit_or (goes_on flags) inherit_only_alone

-- the flags of an ACE of the parent in the child, or none if the child does not have the ACE
abbrev pub child_flags : ChildKind → ℕ → Option ℕ
child_flags File flags = if has_bit flags file_inherit then Some (ends flags) else None
child_flags Directory flags =
    if has_bit flags directory_inherit
    then (if has_bit flags no_propagate_inherit then Some (ends flags) else Some (goes_on flags))
    else (if has_bit flags no_propagate_inherit then None
    else (if has_bit flags file_inherit then Some (waiting_flags flags) else None))

-- an ACE with other flags
abbrev pub with_flags : Ace → ℕ → Ace
with_flags a flags = record { kind = a.kind; flags = flags; mask = a.mask; who = a.who }

-- an ACE of the parent in the child
abbrev pub child_ace : ChildKind → Ace → Option Ace
child_ace kind a = option_map (with_flags a) (child_flags kind a.flags)

-- the list of the child: what it has from each ACE, in order
abbrev pub children : ChildKind → List Ace → List Ace
children kind list = filter_map (child_ace kind) list

-- an ACE with more flags
abbrev pub flagged : ℕ → Ace → Ace
flagged more a = with_flags a (bit_or a.flags more)

-- the list of the child, with INHERITED set on each ACE (RFC 8881, section 6.4.3.2, for automatic inheritance)
abbrev pub inherited_children : ChildKind → List Ace → List Ace
inherited_children kind list = map (flagged inherited_alone) (children kind list)
