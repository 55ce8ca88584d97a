-- The list in which a group stands for each unknown special identifier (RFC 8881, section 6.2.1.5): this library's own.
-- Such an identifier means a set of requesters, as the name of a group does.
use Rattle.std.specs.Prelude.{◌≡◌, ◌&&◌, ◌++◌, ⊤, ℕ, Bool, not, List, map, position, Option, None, Some, if◌then◌else◌}
use Rattle.std.specs.List.{list_any}
use Rattle.std.specs.Str.{bytes_eq}
use Rattle.acl_nfs4.specs.AccessPart.{flags_kept}
use Rattle.acl_nfs4.specs.Ace.{Ace}
use Rattle.acl_nfs4.specs.Renamed.{is_account, is_of_group}
use Rattle.acl_nfs4.specs.Who.{is_unknown_special}
use Rattle.acl_nfs4.specs.declared.xdr.unknown_groups.GroupsFault.{GroupsFault}
use Rattle.acl_nfs4.specs.declared.xdr.unknown_groups.GroupsFault.TheVariants as fault

-- the name of a who: an unknown special identifier followed by the suffix, and any other who as it is
abbrev pub name_with : List ℕ → List ℕ → List ℕ
name_with suffix who = if is_unknown_special who then who ++ suffix else who

-- the ACE with that name, for a group if its who is an unknown special identifier
abbrev pub with_stand_in : List ℕ → Ace → Ace
with_stand_in suffix a = record {
  kind = a.kind;
  flags = flags_kept a.flags a.who;
  mask = a.mask;
  who = name_with suffix a.who;
}

-- the list with a group for each unknown special identifier
abbrev pub with_groups : List ℕ → List Ace → List Ace
with_groups suffix list = map (with_stand_in suffix) list

-- ---- why there is no such list

-- the ACE has an unknown special identifier, which with the suffix is not the name of a group
abbrev pub is_misnamed : List ℕ → Ace → Bool
is_misnamed suffix a = is_unknown_special a.who && not (is_account (a.who ++ suffix))

-- the name is an unknown special identifier of the list with the suffix
abbrev pub is_stand_in : List ℕ → List Ace → List ℕ → Bool
is_stand_in suffix list name = list_any (λ a. is_unknown_special a.who && bytes_eq (a.who ++ suffix) name) list

-- the ACE is for a group that has the name of one that stands for an unknown special identifier
abbrev pub has_taken_name : List ℕ → List Ace → Ace → Bool
has_taken_name suffix list a = is_of_group a && (not (is_unknown_special a.who) && is_stand_in suffix list a.who)

-- the place of the first ACE that is not named
abbrev pub first_misnamed : List ℕ → List Ace → Option ℕ
first_misnamed suffix list = position (is_misnamed suffix) list

-- the place of the first ACE whose group would become one with another
abbrev pub first_taken : List ℕ → List Ace → Option ℕ
first_taken suffix list = position (has_taken_name suffix list) list

-- each unknown special identifier gets the name of a group, and no ACE is for a group of that name
pub record HasFreeNames (suffix : List ℕ) (list : List Ace) : Type 0 where
  pub named : first_misnamed suffix list ≡ None
  pub free : first_taken suffix list ≡ None

-- a fault: the first ACE that is not named; if all are named, the first ACE whose group would become one with another;
-- or memory ran out
abbrev pub IsGroupsFault : List ℕ → List Ace → GroupsFault → Type 0
IsGroupsFault suffix list (fault.Name place) = first_misnamed suffix list ≡ Some place
IsGroupsFault suffix list (fault.Merged place) =
    (first_misnamed suffix list ≡ None) × (first_taken suffix list ≡ Some place)
IsGroupsFault suffix list fault.Memory = ⊤
