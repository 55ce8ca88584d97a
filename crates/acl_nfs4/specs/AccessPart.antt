-- The part of a list that access reads (RFC 8881, section 6.2.1): AUDIT and ALARM ACEs grant and deny nothing, so they
-- are left out and counted. An ACE may have any special identifier (section 6.2.1.5). One that is none of `OWNER@`,
-- `GROUP@` and `EVERYONE@` is unknown: it is kept as the name of a group.
use Rattle.std.specs.Prelude.{◌≡◌, ◌==◌, ℕ, ◌<◌, ◌≤◌, IsFalse, IsTrue, bit_or, count_ones, Bool, not, nat_lt, if◌then◌else◌, List, map, filter, ◌++◌, length, replicate, sum_by}
use Rattle.std.specs.List.{flat_map, list_all, AllByRecursion}
use Rattle.std.specs.Str.{is_utf8}
use Rattle.acl_perm.specs.Bits.{identifier_group_alone}
use Rattle.acl_perm.specs.Profile.{Profile}
use Rattle.acl_perm.specs.declared.kind.Kind.{Kind}
use Rattle.acl_perm.specs.declared.kind.Kind.TheVariants.{Allow, Deny}
use Rattle.acl_nfs4.specs.Ace.{Ace}
use Rattle.acl_nfs4.specs.Limits.{most_aces, most_weight}
use Rattle.acl_nfs4.specs.Spelling.{pad_len, word}
use Rattle.acl_nfs4.specs.Who.{is_no_who_len, is_plain, is_unknown_special}
use Rattle.acl_nfs4.specs.Within.{IsWithin}

-- an ACE of any type: the number of its type, which is 0 (ALLOW), 1 (DENY), 2 (AUDIT) or 3 (ALARM), its flags, its mask
-- and its who
pub record AnyAce : Type 0 where
  pub type_number : ℕ
  pub flags : ℕ
  pub mask : ℕ
  pub who : List ℕ

-- what access reads of a list: the ACEs that are kept, in order, and the number of those that are left out
pub record Part : Type 0 where
  pub kept : List Ace
  pub left_out : ℕ

-- the type of the ACE is ALLOW or DENY
abbrev pub is_for_access : AnyAce → Bool
is_for_access a = nat_lt a.type_number 2

-- the flags with IDENTIFIER_GROUP if the who is an unknown special identifier, and otherwise as they are
abbrev pub flags_kept : ℕ → List ℕ → ℕ
flags_kept flags who = if is_unknown_special who then bit_or flags identifier_group_alone else flags

-- the kind of a type, which is that of an ALLOW or a DENY
abbrev pub kind_of_type : ℕ → Kind
kind_of_type number = if number == 0 then Allow else Deny

-- the ACE that is kept of an ALLOW or a DENY
abbrev pub kept_ace : AnyAce → Ace
kept_ace a = record {
  kind = kind_of_type a.type_number;
  flags = flags_kept a.flags a.who;
  mask = a.mask;
  who = a.who;
}

-- the part of a list that access reads
abbrev pub access_part : List AnyAce → Part
access_part list = record {
  kept = map kept_ace (filter is_for_access list);
  left_out = length (filter (λ a. not (is_for_access a)) list);
}

-- ---- the spelling, which differs from that of other lists in the types and the special identifiers alone

-- the bytes of an ACE: the words of its type, flags, mask and who's length, the who, and zero bytes up to a multiple of
-- four
abbrev pub any_piece : AnyAce → List ℕ
any_piece a = word a.type_number ++ word a.flags ++ word a.mask ++ word (length a.who) ++ a.who
    ++ replicate (pad_len (length a.who)) 0

-- a name of 1 to 1,024 bytes of UTF-8 without control bytes
pub record IsAnyWho (who : List ℕ) : Type 0 where
  pub long : IsFalse (is_no_who_len (length who))
  pub utf8 : IsTrue (is_utf8 who)
  pub plain : IsTrue (list_all is_plain who)

-- the type is one of the four, the flags and the mask are within the profile, and the who is a name
pub record IsAnyAce (p : Profile) (a : AnyAce) : Type 0 where
  pub type_number : a.type_number < 4
  pub flags : IsWithin p.flags a.flags
  pub mask : IsWithin p.masks a.mask
  pub who : IsAnyWho a.who

-- the bytes are the word of the list's length, and the bytes of its ACEs in order; the list is within the profile and
-- the limits of this library, for which the ACEs that access does not read count too
pub record AnyXdr (p : Profile) (list : List AnyAce) (bytes : List ℕ) : Type 0 where
  pub count : length list ≤ most_aces
  pub weight : sum_by (λ a. count_ones a.mask) list ≤ most_weight
  pub each : AllByRecursion (IsAnyAce p) list
  pub spelled : bytes ≡ word (length list) ++ flat_map any_piece list

-- the bytes spell a list, and the part is what access reads of that list
abbrev pub IsPartOf : Profile → List ℕ → Part → Type 0
IsPartOf p bytes part = (list : List AnyAce) × AnyXdr p list bytes × (part ≡ access_part list)
