-- The who of an ACE (RFC 8881, section 6.2.1.5): which bytes are valid there, and whom they name.
use Rattle.std.specs.Prelude.{◌≡◌, ℕ, ◌-◌, List, length, slice_index, codes, ◌==◌, ◌||◌, ◌&&◌, nat_le, nat_lt, Bool, not, if◌then◌else◌, Option, None, Some}
use Rattle.std.specs.List.{list_all}
use Rattle.std.specs.Str.{is_utf8, bytes_eq}
use Rattle.acl_perm.specs.Ascii.{at_sign, delete, space}
use Rattle.acl_perm.specs.Bits.{has_bit, identifier_group}
use Rattle.acl_perm.specs.Principal.{Principal, owner, user, group, group_named, everyone}
use Rattle.acl_nfs4.specs.Ace.{Ace}
use Rattle.acl_nfs4.specs.Limits.{longest_who}
use Rattle.acl_nfs4.specs.declared.who.WhoFault.{WhoFault}
use Rattle.acl_nfs4.specs.declared.who.WhoFault.TheVariants.{Length, Utf8, Control, Special}

-- a byte that is not a control byte
abbrev pub is_plain : ℕ → Bool
is_plain b = nat_le space b && not (b == delete)

-- the last byte is `@`
abbrev pub ends_in_at : List ℕ → Bool
ends_in_at who = slice_index who (length who - 1) == at_sign

-- the special identifier of the owner
abbrev pub owner_name : List ℕ
owner_name = codes "OWNER@"

-- the special identifier of the owning group
abbrev pub group_name : List ℕ
group_name = codes "GROUP@"

-- the special identifier of everyone
abbrev pub everyone_name : List ℕ
everyone_name = codes "EVERYONE@"

-- one of the three special identifiers that are accepted
abbrev pub is_special : List ℕ → Bool
is_special who = bytes_eq who owner_name || bytes_eq who group_name || bytes_eq who everyone_name

-- a who that ends in `@` and is none of the three
abbrev pub is_unknown_special : List ℕ → Bool
is_unknown_special who = ends_in_at who && not (is_special who)

-- a number of bytes that no who has
abbrev pub is_no_who_len : ℕ → Bool
is_no_who_len n = n == 0 || nat_lt longest_who n

-- the first condition on a who that the bytes do not meet, in the order in which the conditions are judged
abbrev pub who_fault : List ℕ → Option WhoFault
who_fault who = if is_no_who_len (length who) then Some Length
    else (if not (is_utf8 who) then Some Utf8
    else (if not (list_all is_plain who) then Some Control
    else (if is_unknown_special who then Some Special else None)))

-- bytes that are valid as a who
abbrev pub IsWho : List ℕ → Type 0
IsWho who = who_fault who ≡ None

-- whom an ACE names: the three special identifiers whether or not the flag IDENTIFIER_GROUP is set, else a group if it
-- is set and a user if it is not
abbrev pub principal_of : Ace → Principal
principal_of a = if bytes_eq a.who owner_name then owner
    else (if bytes_eq a.who group_name then group
    else (if bytes_eq a.who everyone_name then everyone
    else (if has_bit a.flags identifier_group then group_named a.who else user a.who)))
