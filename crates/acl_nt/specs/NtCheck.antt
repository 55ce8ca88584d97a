-- The access check of a security descriptor (MS-DTYP, section 2.5.3.2), for ALLOW and DENY ACEs:
-- without privileges, conditions, labels and central policies.
use Rattle.std.specs.Prelude.{ℕ, Bool, false, true, ◌&&◌, ◌||◌, not, ◌==◌, if◌then◌else◌, List, [], ◌∷◌, Option, Some, None, bit_and}
use Rattle.std.specs.List.{list_any}
use Rattle.std.specs.Str.{bytes_eq}
use Rattle.acl_perm.specs.Bits.{has_bit, inherit_only}
use Rattle.acl_perm.specs.Kind.{is_allow}
use Rattle.acl_eval.specs.Scan.{without}
use Rattle.acl_nt.specs.Descriptor.{Dacl, Descriptor, NtAce, entries, null}
use Rattle.acl_nt.specs.Sid.{Sid}

-- both are the same SID
abbrev pub same_sid : Sid → Sid → Bool
same_sid x y = x.authority == y.authority && bytes_eq x.words y.words

-- the SID is in a set of SIDs, which is given as a list: the order and repeated members do not
-- count
abbrev pub is_sid_in : Sid → List Sid → Bool
is_sid_in x sids = list_any (same_sid x) sids

-- S-1-1-0, which everybody has (section 2.4.2.4)
abbrev pub everyone_sid : Sid
everyone_sid = record { authority = 1; words = 0 ∷ [] }

-- S-1-3-4, OWNER RIGHTS, which stands for the owner (section 2.4.2.4)
abbrev pub owner_rights : Sid
owner_rights = record { authority = 3; words = 4 ∷ [] }

-- the fourteen access rights of files and directories together (section 2.4.3)
abbrev pub file_rights : ℕ
file_rights = 0x001f01ff

-- READ_CONTROL and WRITE_DAC together (section 2.4.3): READ_ACL and WRITE_ACL of NFSv4
abbrev pub owner_mask : ℕ
owner_mask = 0x00060000

-- the ACE is for the object itself: it lacks the flag INHERIT_ONLY_ACE, which has the bit of
-- INHERIT_ONLY of NFSv4 (section 2.4.4.1)
abbrev pub is_for_object : NtAce → Bool
is_for_object a = not (has_bit a.flags inherit_only)

-- the ACE is for the object and names OWNER RIGHTS
abbrev pub is_owner_ace : NtAce → Bool
is_owner_ace a = is_for_object a && same_sid owner_rights a.sid

-- some ACE for the object names OWNER RIGHTS
abbrev pub has_owner_ace : List NtAce → Bool
has_owner_ace aces = list_any is_owner_ace aces

-- there is an owner, and it is one of the SIDs of the token
abbrev pub owns : Option Sid → List Sid → Bool
owns None token = false
owns (Some o) token = is_sid_in o token

-- the SID is one of the token, or it is OWNER RIGHTS and the token owns the object
abbrev pub is_for_token : Option Sid → List Sid → Sid → Bool
is_for_token owner token x = is_sid_in x token || (same_sid owner_rights x && owns owner token)

-- The ACEs in order, and the rights that remain to be granted: an ALLOW of a SID that passes the
-- test takes its rights out; a DENY with a remaining right ends the check. Access is granted if no
-- right remains.
abbrev pub grants_rest : (Sid → Bool) → List NtAce → ℕ → Bool
grants_rest named [] left = left == 0
grants_rest named (a ∷ aces) left =
    if not (is_for_object a && named a.sid) then grants_rest named aces left
    else (if is_allow a.kind then grants_rest named aces (without left a.mask)
    else (bit_and left a.mask == 0 && grants_rest named aces left))

-- the rights that remain before the ACEs: the owner has READ_CONTROL and WRITE_DAC, unless an ACE
-- is for OWNER RIGHTS
abbrev pub before_aces : Option Sid → List Sid → List NtAce → ℕ → ℕ
before_aces owner token aces request =
    if owns owner token && not (has_owner_ace aces) then without request owner_mask else request

-- a NULL DACL grants everything
abbrev pub dacl_grants : Option Sid → List Sid → Dacl → ℕ → Bool
dacl_grants owner token null request = true
dacl_grants owner token (entries aces) request =
    grants_rest (is_for_token owner token) aces (before_aces owner token aces request)

-- the descriptor grants a request to a requester with these SIDs
abbrev pub nt_check : Descriptor → List Sid → ℕ → Bool
nt_check d token request = dacl_grants d.owner token d.dacl request
