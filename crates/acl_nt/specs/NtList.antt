-- The NFSv4 list of a security descriptor, for its object itself (this library's own, over MS-DTYP,
-- section 2.4.6, and RFC 8881, section 6.2.1).
use Rattle.std.specs.Prelude.{ℕ, ◌≡◌, ⊤, ◌||◌, IsFalse, IsTrue, codes, if◌then◌else◌, List, [], ◌∷◌, ◌++◌, map, filter, Option, Some, None, bit_and}
use Rattle.std.specs.List.{AllByRecursion}
use Rattle.acl_perm.specs.Bits.{identifier_group_alone}
use Rattle.acl_perm.specs.Principal.{Principal, user, group_named}
use Rattle.acl_perm.specs.Profile.{full}
use Rattle.acl_perm.specs.Situation.{Situation, matches}
use Rattle.acl_perm.specs.declared.kind.Kind.{Kind}
use Rattle.acl_perm.specs.declared.kind.Kind.TheVariants.{Allow}
use Rattle.acl_nfs4.specs.Ace.{Ace}
use Rattle.acl_nfs4.specs.Spelling.{IsAccepted}
use Rattle.acl_nfs4.specs.Who.{everyone_name}
use Rattle.acl_nt.specs.Descriptor.{Dacl, Descriptor, NtAce, entries, null}
use Rattle.acl_nt.specs.NtCheck.{everyone_sid, file_rights, has_owner_ace, is_for_object, is_sid_in, owner_mask, owner_rights, same_sid}
use Rattle.acl_nt.specs.Sid.{IsSid, Sid}
use Rattle.acl_nt.specs.SidName.{sid_name}
use Rattle.acl_nt.specs.declared.mapping.NtListFault.{NtListFault}
use Rattle.acl_nt.specs.declared.mapping.NtListFault.TheVariants.{Limits, Memory}

-- S-1-1-0 is `EVERYONE@`, and any other SID has its name
abbrev pub sid_who : Sid → List ℕ
sid_who x = if same_sid everyone_sid x then everyone_name else sid_name x

-- no flag for everyone and for users, and IDENTIFIER_GROUP for any other SID
abbrev pub sid_flags : List Sid → Sid → ℕ
sid_flags users x =
    if same_sid everyone_sid x || is_sid_in x users then 0 else identifier_group_alone

-- the ACE of a SID, with those rights of a mask that are rights of files
abbrev pub sid_ace : List Sid → Kind → ℕ → Sid → Ace
sid_ace users kind mask x =
    record {
      kind = kind;
      flags = sid_flags users x;
      mask = bit_and mask file_rights;
      who = sid_who x;
    }

-- OWNER RIGHTS stands for the owner, if there is one, and any other SID for itself
abbrev pub stands_for : Option Sid → Sid → Sid
stands_for None x = x
stands_for (Some o) x = if same_sid owner_rights x then o else x

-- the ACE of an ACE that is for the object
abbrev pub object_ace : List Sid → Option Sid → NtAce → Ace
object_ace users owner a = sid_ace users a.kind a.mask (stands_for owner a.sid)

-- the ACEs of the ACEs that are for the object, in order
abbrev pub object_aces : List Sid → Option Sid → List NtAce → List Ace
object_aces users owner aces = map (object_ace users owner) (filter is_for_object aces)

-- the owner's two rights in front, if there is an owner and no ACE for OWNER RIGHTS
abbrev pub implicit_aces : List Sid → Option Sid → List NtAce → List Ace
implicit_aces users None aces = []
implicit_aces users (Some o) aces =
    if has_owner_ace aces then [] else sid_ace users Allow owner_mask o ∷ []

-- without a DACL, everybody is granted everything
abbrev pub dacl_list : List Sid → Option Sid → Dacl → List Ace
dacl_list users owner null = sid_ace users Allow file_rights everyone_sid ∷ []
dacl_list users owner (entries aces) =
    implicit_aces users owner aces ++ object_aces users owner aces

-- the list of a descriptor, where these SIDs are users and all others are groups
abbrev pub nt_list : List Sid → Descriptor → List Ace
nt_list users d = dacl_list users d.owner d.dacl

-- Limits if and only if the list is above a limit of this library; Memory if memory ran out
abbrev pub IsNtListFault : List Ace → NtListFault → Type 0
IsNtListFault list Limits = IsAccepted full list → ⊥
IsNtListFault list Memory = ⊤

-- ---- requesters

-- whom a SID names, other than everyone
abbrev pub sid_principal : List Sid → Sid → Principal
sid_principal users x = if is_sid_in x users then user (sid_name x) else group_named (sid_name x)

-- the situation belongs to a token: the user or the group of a SID matches if and only if the SID
-- is in the token; the owner and the owning group are any
abbrev pub BelongsTo : List Sid → List Sid → Situation → Type 0
BelongsTo users token s = (x : Sid) → IsSid x → IsFalse (same_sid everyone_sid x)
    → matches s (sid_principal users x) ≡ is_sid_in x token

-- the owner, if there is one, is a SID
abbrev pub HasOwnerSid : Option Sid → Type 0
HasOwnerSid None = ⊤
HasOwnerSid (Some o) = IsSid o

-- whom the ACEs of a DACL name are SIDs
abbrev pub HasSidsIn : Dacl → Type 0
HasSidsIn null = ⊤
HasSidsIn (entries aces) = AllByRecursion (λ a. IsSid a.sid) aces

-- the owner of a descriptor, if there is one, and whom its ACEs name are SIDs
pub record HasSids (d : Descriptor) : Type 0 where
  pub owner : HasOwnerSid d.owner
  pub dacl : HasSidsIn d.dacl

-- the name of the user with a token: that of its first SID that is a user, and no name of a SID if
-- it has no user
abbrev pub token_user : List Sid → List Sid → List ℕ
token_user users [] = codes "nobody"
token_user users (x ∷ token) = if is_sid_in x users then sid_name x else token_user users token

-- at most one SID of the token is a user
abbrev pub HasOneUser : List Sid → List Sid → Type 0
HasOneUser users token = (x y : Sid) → IsTrue (is_sid_in x users) → IsTrue (is_sid_in y users)
    → IsTrue (is_sid_in x token) → IsTrue (is_sid_in y token) → x ≡ y
